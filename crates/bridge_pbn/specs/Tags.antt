-- The tag pairs of a game: what was played where and by whom, and what came of it.
use Rattle.std.specs.Prelude.{ℕ, true, false, List, [], ◌∷◌, ◌++◌, codes}
use Rattle.std.specs.Fmt.{decimal}
use Rattle.bridge_cards.specs.Board.{dealer_of, vulnerability_on}
use Rattle.bridge_cards.specs.Seat.{seat_letter}
use Rattle.bridge_cards.specs.DealText.{deal_text}
use Rattle.bridge_cards.specs.Vulnerability.{vulnerability_text}
use Rattle.bridge_auction.specs.Spelling.{bid_text, doubling_text}
use Rattle.bridge_movement.specs.declared.row.Row.{Row}
use Rattle.bridge_cards.specs.declared.scoring.Scoring.{Scoring}
use Rattle.bridge_cards.specs.declared.scoring.Scoring.TheVariants.{MatchPoints, Imps}
use Rattle.bridge_config.specs.ConfigValue.{ConfigValue, Pair, player_name}
use Rattle.session_rules.specs.declared.outcome.Outcome.{Outcome}
use Rattle.session_rules.specs.declared.outcome.Outcome.TheVariants.{PassedOut, Played}

-- a tag pair, as `[Board "1"]`
abbrev pub tag : List ℕ → List ℕ → List ℕ
tag name value = (((codes "[" ++ name) ++ codes " \"") ++ value) ++ codes "\"]"

-- the scoring, as PBN names it
abbrev pub scoring_text : Scoring → List ℕ
scoring_text MatchPoints = codes "MP"
scoring_text Imps = codes "IMP"

-- where and when the session was held, and the board
abbrev pub event_tags : ConfigValue → ℕ → List (List ℕ)
event_tags configuration board =
    tag (codes "Event") configuration.event
    ∷ tag (codes "Site") configuration.site
    ∷ tag (codes "Date") configuration.date
    ∷ tag (codes "Board") (decimal board)
    ∷ []

-- Who sat where: of a pair, the first player North or East, the second South or West.
abbrev pub player_tags : List Pair → Row → List (List ℕ)
player_tags pairs row =
    tag (codes "West") (player_name pairs row.ew false)
    ∷ tag (codes "North") (player_name pairs row.ns true)
    ∷ tag (codes "East") (player_name pairs row.ew true)
    ∷ tag (codes "South") (player_name pairs row.ns false)
    ∷ []

-- the dealer, the vulnerability and the hands of the board, the dealer's first, and how scores are compared
abbrev pub board_tags : ℕ → List ℕ → Scoring → List (List ℕ)
board_tags board hands scoring =
    tag (codes "Dealer") (seat_letter (dealer_of board) ∷ [])
    ∷ tag (codes "Vulnerable") (vulnerability_text (vulnerability_on board))
    ∷ tag (codes "Deal") (deal_text hands (dealer_of board))
    ∷ tag (codes "Scoring") (scoring_text scoring)
    ∷ []

-- the declarer, if there is one
abbrev pub declarer_text : Outcome → List ℕ
declarer_text (Played contract tricks) = seat_letter contract.declarer ∷ []
declarer_text _ = []

-- the last bid and its doubling, or that nobody bid
abbrev pub outcome_contract_text : Outcome → List ℕ
outcome_contract_text (Played contract tricks) = bid_text contract.bid ++ doubling_text contract.doubling
outcome_contract_text PassedOut = codes "Pass"
outcome_contract_text _ = []

-- declarer's tricks, those of a ruling where there is one
abbrev pub result_text : Outcome → List ℕ
result_text (Played contract tricks) = decimal tricks
result_text _ = []

-- what came of the play
abbrev pub outcome_tags : Outcome → List (List ℕ)
outcome_tags outcome =
    tag (codes "Declarer") (declarer_text outcome)
    ∷ tag (codes "Contract") (outcome_contract_text outcome)
    ∷ tag (codes "Result") (result_text outcome)
    ∷ []

-- where in the movement the board was played
abbrev pub table_tags : Row → List (List ℕ)
table_tags row = tag (codes "Round") (decimal row.round) ∷ tag (codes "Table") (decimal row.table) ∷ []
