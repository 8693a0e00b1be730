-- The words for the players at a table and for a contract.
use Rattle.std.specs.Prelude.{ℕ, true, false, List, [], ◌∷◌, ◌++◌, codes, Option, None, Some}
use Rattle.bridge_cards.specs.Seat.{seat_letter}
use Rattle.bridge_auction.specs.declared.contract.Contract.{Contract}
use Rattle.bridge_auction.specs.Spelling.{bid_text, doubling_text}
use Rattle.bridge_config.specs.ConfigValue.{Pair, player_name}
use Rattle.bridge_movement.specs.declared.row.Row.{Row}

-- what stands where there is nothing to tell
abbrev pub nothing : List (List ℕ)
nothing = codes "-" ∷ []

-- the names in North, East, South and West: a pair's first player sits North or East, the second South or West
abbrev pub names_at : List Pair → Row → List (List ℕ)
names_at pairs row = player_name pairs row.ns true ∷ player_name pairs row.ew true ∷ player_name pairs row.ns false ∷ player_name pairs row.ew false ∷ []

-- the bid with its doubling, and declarer
abbrev pub contract_words : Option Contract → List (List ℕ)
contract_words None = nothing
contract_words (Some contract) = (bid_text contract.bid ++ doubling_text contract.doubling) ∷ (seat_letter contract.declarer ∷ []) ∷ []
