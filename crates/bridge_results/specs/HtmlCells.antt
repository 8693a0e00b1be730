-- What stands in the cells about a play in HTML, as players write it.
use Rattle.std.specs.Prelude.{ℕ, ◌+◌, ◌-◌, ◌==◌, nat_lt, if◌then◌else◌, List, [], ◌∷◌, ◌++◌, codes, ℤ, Option}
use Rattle.std.specs.Option.{option_map_or}
use Rattle.std.specs.Fmt.{decimal}
use Rattle.bridge_cards.specs.Card.{card_suit, card_rank}
use Rattle.bridge_cards.specs.Rank.{rank_letter}
use Rattle.bridge_cards.specs.Suit.{suit_letter}
use Rattle.bridge_auction.specs.declared.contract.Contract.{Contract}
use Rattle.bridge_auction.specs.declared.contract.Doubling.{Doubling}
use Rattle.bridge_auction.specs.declared.contract.Doubling.TheVariants.{Undoubled, Doubled, Redoubled}
use Rattle.bridge_auction.specs.Spelling.{bid_text}
use Rattle.bridge_score.specs.Percent.{share_percent}
use Rattle.session_rules.specs.declared.outcome.Outcome.{Outcome}
use Rattle.session_rules.specs.declared.outcome.Outcome.TheVariants.{Played, Assigned}
use Rattle.line_text.specs.Decimals.{percent_text}
use Rattle.bridge_results.specs.PlayCells.{contract_cell}

-- what stands behind a bid that was doubled or redoubled
abbrev pub doubled_marks : Doubling → List ℕ
doubled_marks Undoubled = []
doubled_marks Doubled = codes "x"
doubled_marks Redoubled = codes "xx"

-- declarer's tricks beside those that a contract of a level needs, which are six more than the level (Law 18A): `=` as many, or
-- how many more or less
abbrev pub tricks_beside : ℕ → ℕ → List ℕ
tricks_beside level tricks =
    if tricks == level + 6 then codes "="
    else if nat_lt tricks (level + 6) then codes "-" ++ decimal ((level + 6) - tricks)
    else codes "+" ++ decimal (tricks - (level + 6))

-- a contract and what came of it, as `4Sx-2`
abbrev pub made_cell : Contract → ℕ → List ℕ
made_cell contract tricks =
    (bid_text contract.bid ++ doubled_marks contract.doubling) ++ tricks_beside contract.bid.level tricks

-- the contract of a play and what came of it, with `*` behind it where the score is assigned; or what else came of the play
abbrev pub result_cell : Outcome → List ℕ
result_cell (Played contract tricks) = made_cell contract tricks
result_cell (Assigned contract tricks) = made_cell contract tricks ++ codes "*"
result_cell outcome = contract_cell outcome

-- the letter of a rank, and 10 for a ten
abbrev pub shown_letter : ℕ → List ℕ
shown_letter letter = if letter == 84 then codes "10" else letter ∷ []

-- a card, as `H10`
abbrev pub card_cell : ℕ → List ℕ
card_cell card = suit_letter (card_suit card) ∷ shown_letter (rank_letter (card_rank card))

-- a card, if there is one
abbrev pub perhaps_card : Option ℕ → List ℕ
perhaps_card card = option_map_or card_cell card []

-- which share of what was available was gained
abbrev pub gain_share : ℤ → ℕ → Option ℕ
gain_share gain available = share_percent (record { pair = 0; place = 0; value = gain; available = available })

-- the same in per cent, where there is a gain, as a void play has none
abbrev pub percent_cell : Option ℤ → ℕ → List ℕ
percent_cell gain available = option_map_or (λ gained. percent_text (gain_share gained available)) gain []
