-- What stands in the cells about a play.
use Rattle.std.specs.Prelude.{ℕ, List, [], ◌∷◌, ◌++◌, codes, ℤ, unsigned_abs, Option, Some, None, option_and_then}
use Rattle.std.specs.Option.{option_map_or}
use Rattle.std.specs.Fmt.{decimal, signed_decimal}
use Rattle.bridge_cards.specs.Seat.{seat_letter}
use Rattle.bridge_cards.specs.Card.{card_text}
use Rattle.bridge_auction.specs.Spelling.{bid_text, doubling_text}
use Rattle.bridge_cards.specs.declared.scoring.Scoring.{Scoring}
use Rattle.bridge_cards.specs.declared.scoring.Scoring.TheVariants.{MatchPoints, Imps}
use Rattle.bridge_ranking.specs.declared.game.PlayResult.{PlayResult}
use Rattle.bridge_ranking.specs.declared.game.PlayResult.TheVariants.{Score, Averages}
use Rattle.session_rules.specs.Average.{percent_of}
use Rattle.session_rules.specs.declared.outcome.Outcome.{Outcome}
use Rattle.session_rules.specs.declared.outcome.Outcome.TheVariants.{Unfinished, PassedOut, Played, Voided, Adjusted, Assigned}
use Rattle.line_text.specs.Decimals.{tenths_text}
use Rattle.bridge_results.specs.declared.compare.Comparison.{Comparison}

-- the contract of a play, as `4HXX`, with `*` behind it where the score is assigned; or what else came of it
abbrev pub contract_cell : Outcome → List ℕ
contract_cell Unfinished = []
contract_cell PassedOut = codes "Pass"
contract_cell (Played contract tricks) = bid_text contract.bid ++ doubling_text contract.doubling
contract_cell Voided = codes "Void"
contract_cell (Adjusted ns ew) = codes "Adjusted"
contract_cell (Assigned contract tricks) = (bid_text contract.bid ++ doubling_text contract.doubling) ++ codes "*"

-- the declarer of a play, as the seat's letter
abbrev pub declarer_cell : Outcome → List ℕ
declarer_cell (Played contract tricks) = seat_letter contract.declarer ∷ []
declarer_cell (Assigned contract tricks) = seat_letter contract.declarer ∷ []
declarer_cell _ = []

-- declarer's tricks, those of a ruling where there is one
abbrev pub tricks_cell : Outcome → List ℕ
tricks_cell (Played contract tricks) = decimal tricks
tricks_cell (Assigned contract tricks) = decimal tricks
tricks_cell _ = []

-- the opening lead
abbrev pub lead_cell : Option ℕ → List ℕ
lead_cell lead = option_map_or card_text lead []

-- what the director awarded North and South, and East and West, in place of a score, as `60/40%`
abbrev pub award_cell : Outcome → List ℕ
award_cell (Adjusted ns ew) = ((decimal (percent_of ns) ++ codes "/") ++ decimal (percent_of ew)) ++ codes "%"
award_cell _ = []

-- the score, or what the director awarded in place of one
abbrev pub score_cell : Outcome → Option ℤ → List ℕ
score_cell outcome None = award_cell outcome
score_cell outcome (Some score) = signed_decimal score

-- what was gained: matchpoints, which are kept in tenths, with one decimal, or IMPs
abbrev pub gain_text : Scoring → ℤ → List ℕ
gain_text MatchPoints gain = tenths_text (unsigned_abs gain)
gain_text Imps gain = signed_decimal gain

-- what was gained, if anything can be
abbrev pub gain_cell : Scoring → Option ℤ → List ℕ
gain_cell scoring gain = option_map_or (gain_text scoring) gain []

-- the score of North and South, which averages have not
abbrev pub result_score : PlayResult → Option ℤ
result_score (Score score) = Some score
result_score (Averages ns ew) = None

-- the score of North and South in a line of a traveller
abbrev pub line_score : Option Comparison → Option ℤ
line_score comparison = option_and_then (λ (compared : Comparison). result_score compared.result) comparison
