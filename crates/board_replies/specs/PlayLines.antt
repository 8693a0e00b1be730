-- The lines about one play.
use Rattle.std.specs.Prelude.{ℕ, if◌then◌else◌, List, [], ◌∷◌, ◌++◌, codes, map, ℤ, Option, Some, None, option_and_then}
use Rattle.std.specs.Option.{option_map_or}
use Rattle.std.specs.Fmt.{decimal, signed_decimal}
use Rattle.bridge_cards.specs.declared.seat.Seat.TheVariants.{North}
use Rattle.bridge_cards.specs.declared.seat.Side.{Side}
use Rattle.bridge_cards.specs.Card.{card_text}
use Rattle.bridge_cards.specs.DealText.{deal_text}
use Rattle.bridge_auction.specs.declared.contract.Contract.{Contract}
use Rattle.bridge_auction.specs.Spelling.{call_text}
use Rattle.bridge_config.specs.ConfigValue.{ConfigValue}
use Rattle.bridge_movement.specs.declared.row.Row.{Row}
use Rattle.bridge_play.specs.declared.claim.Claim.{Claim}
use Rattle.bridge_play.specs.Play.{PlayValue, is_agreed}
use Rattle.bridge_play.specs.Trick.{leader_of}
use Rattle.bridge_ranking.specs.Ranking.{result_of}
use Rattle.session_rules.specs.declared.average.Average.{Average}
use Rattle.session_rules.specs.Average.{percent_of}
use Rattle.session_rules.specs.declared.outcome.Outcome.{Outcome}
use Rattle.session_rules.specs.declared.outcome.Outcome.TheVariants.{Unfinished, PassedOut, Played, Voided, Adjusted, Assigned}
use Rattle.bridge_results.specs.CardText.{side_words}
use Rattle.bridge_results.specs.PlayCells.{result_score}
use Rattle.line_replies.specs.ReplyTexts.{spaced_line}
use Rattle.line_replies.specs.ViewText.{seat_word}
use Rattle.line_replies.specs.TableWords.{nothing, names_at, contract_words}
use Rattle.board_replies.specs.KnownPlay.{KnownPlay}

-- the side of the pair that is told, or `-` for the director
abbrev pub side_word : Option Side → List ℕ
side_word None = codes "-"
side_word (Some side) = side_words side

-- the board, the round, the table, the index in the set, and the side
abbrev pub board_line : Row → ℕ → Option Side → ℕ → List ℕ
board_line row index side board =
    spaced_line (codes "BOARD") (decimal board ∷ decimal row.round ∷ decimal row.table ∷ decimal index ∷ side_word side ∷ [])

-- the names at the table
abbrev pub names_line : ConfigValue → Row → List ℕ
names_line configuration row = spaced_line (codes "NAMES") (names_at configuration.pairs row)

-- the hands, North's first
abbrev pub deal_word : Option (List ℕ) → List ℕ
deal_word hands = option_map_or (λ dealt. deal_text dealt North) hands (codes "-")

-- the opening leader, and the cards in the order in which they were played
abbrev pub led_words : Contract → List ℕ → List (List ℕ)
led_words contract [] = nothing
led_words contract (card ∷ cards) = seat_word (leader_of contract (card ∷ cards) 0) ∷ map card_text (card ∷ cards)

-- the same, once there is a contract
abbrev pub cards_words : Option PlayValue → List (List ℕ)
cards_words None = nothing
cards_words (Some play) = led_words play.contract play.cards

-- the claim of a play that is told: to the director the one that stands, agreed or not, and to a player the agreed one
abbrev pub claim_told : Option Side → PlayValue → Option Claim
claim_told None play = play.claim
claim_told (Some side) play = if is_agreed play then play.claim else None

-- who claims, and how many tricks
abbrev pub claim_words : Option Claim → List (List ℕ)
claim_words None = nothing
claim_words (Some claim) = seat_word claim.claimer ∷ decimal claim.tricks ∷ []

-- the score of North and South on a board, where what came of it has one
abbrev pub score_on : ℕ → Outcome → Option ℤ
score_on board outcome = option_and_then result_score (result_of board outcome)

-- the same as a word
abbrev pub score_words : Option ℤ → List (List ℕ)
score_words score = option_map_or (λ (points : ℤ). signed_decimal points ∷ []) score []

-- the contract, declarer, declarer's tricks and the score
abbrev pub played_words : Contract → ℕ → Option ℤ → List (List ℕ)
played_words contract tricks score = contract_words (Some contract) ++ decimal tricks ∷ score_words score

-- the averages of North and South, and of East and West, in per cent
abbrev pub average_words : Average → Average → List (List ℕ)
average_words ns ew = codes "AVERAGE" ∷ decimal (percent_of ns) ∷ decimal (percent_of ew) ∷ []

-- What came of a play with that score of North and South: the contract, declarer, declarer's tricks and the score; `PASS` and the
-- score; or the director's ruling in place of it.
abbrev pub result_by : Outcome → Option ℤ → List (List ℕ)
result_by Unfinished score = nothing
result_by PassedOut score = codes "PASS" ∷ score_words score
result_by (Played contract tricks) score = played_words contract tricks score
result_by Voided score = codes "VOID" ∷ []
result_by (Adjusted ns ew) score = average_words ns ew
result_by (Assigned contract tricks) score = codes "ASSIGNED" ∷ played_words contract tricks score

-- what came of a play of a board
abbrev pub result_words : ℕ → Outcome → List (List ℕ)
result_words board outcome = result_by outcome (score_on board outcome)

-- what came of a play
abbrev pub result_line : ℕ → Outcome → List ℕ
result_line board outcome = spaced_line (codes "RESULT") (result_words board outcome)

-- how a play went: the hands, the calls, the cards and the claim
abbrev pub course_lines : Option Side → KnownPlay → List (List ℕ)
course_lines side known =
    spaced_line (codes "DEAL") (deal_word known.hands ∷ [])
    ∷ spaced_line (codes "CALLS") (map call_text known.calls)
    ∷ spaced_line (codes "CARDS") (cards_words known.play)
    ∷ spaced_line (codes "CLAIM") (claim_words (option_and_then (claim_told side) known.play))
    ∷ []

-- The lines of a play in a row: which it is, who played it, how it went, and what came of it.
abbrev pub play_lines : ConfigValue → Row → ℕ → Option Side → KnownPlay → List (List ℕ)
play_lines configuration row index side known =
    board_line row index side known.board ∷ names_line configuration row
    ∷ (course_lines side known ++ result_line known.board known.outcome ∷ [])
