-- The results of a session as one object of JSON, without spaces; members stand in the order of their names.
use Rattle.std.specs.Prelude.{◌≡◌, ℕ, true, false, List, [], ◌∷◌, codes, unsigned_abs, Option}
use Rattle.std.specs.List.{range_with_len}
use Rattle.std.specs.Option.{option_map_or}
use Rattle.std.specs.Fmt.{signed_decimal}
use Rattle.line_text.specs.Decimals.{tenths_text}
use Rattle.bridge_cards.specs.Seat.{seat_letter}
use Rattle.bridge_cards.specs.Board.{dealer_of, vulnerability_on}
use Rattle.bridge_cards.specs.Vulnerability.{vulnerability_text}
use Rattle.bridge_cards.specs.DealText.{deal_text}
use Rattle.bridge_cards.specs.declared.scoring.Scoring.{Scoring}
use Rattle.bridge_cards.specs.declared.scoring.Scoring.TheVariants.{MatchPoints, Imps}
use Rattle.bridge_score.specs.declared.ranking.Ranked.{Ranked}
use Rattle.bridge_score.specs.Percent.{share_percent}
use Rattle.bridge_config.specs.ConfigValue.{Pair, ConfigValue, player_name}
use Rattle.bridge_ranking.specs.declared.field.Field.TheVariants.{First, Second}
use Rattle.session_rules.specs.State.{SessionValue, deal_on}
use Rattle.bridge_results.specs.HtmlBoard.{available_on}
use Rattle.bridge_results.specs.ResultsText.{IsFieldRanking}
use Rattle.bridge_results.specs.Traveller.{traveller}
use Rattle.serde_json.specs.Data.{Data, null, string, array, object, item, no_items, member, no_members}
use Rattle.serde_json.specs.Written.{compact_text}
use Rattle.results_object.specs.Values.{text_data, count_data, percent_data, list_data}
use Rattle.results_object.specs.Plays.{play_data}

-- ---- the boards

-- the hands, the dealer's first, or null before the board is dealt
abbrev pub deal_data : ℕ → Option (List ℕ) → Data
deal_data board deal = option_map_or (λ (hands : List ℕ). string (deal_text hands (dealer_of board))) deal null

-- a board with the plays of its traveller, in its order
abbrev pub board_data : SessionValue → ℕ → Data
board_data s board = object (member (codes "board") (count_data board) (member (codes "deal") (deal_data board (deal_on s.deals board))
    (member (codes "dealer") (text_data (seat_letter (dealer_of board) ∷ []))
    (member (codes "plays") (list_data (play_data s (available_on s board)) (traveller s board))
    (member (codes "vulnerable") (text_data (vulnerability_text (vulnerability_on board))) no_members)))))

-- ---- the rankings

-- the matchpoints, those available and the percentage; or the IMPs alone
abbrev pub total_data : Scoring → Ranked → Data
total_data MatchPoints ranked = object (member (codes "available") (text_data (tenths_text ranked.available))
    (member (codes "percent") (percent_data (share_percent ranked))
    (member (codes "points") (text_data (tenths_text (unsigned_abs ranked.value))) no_members)))
total_data Imps ranked = object (member (codes "available") null (member (codes "percent") null
    (member (codes "points") (text_data (signed_decimal ranked.value)) no_members)))

-- the names of a pair's players
abbrev pub names_data : List Pair → ℕ → Data
names_data pairs pair = array (item (text_data (player_name pairs pair true)) (item (text_data (player_name pairs pair false)) no_items))

-- a pair, its names, its place, and what it gained in all
abbrev pub ranked_data : Scoring → List Pair → Ranked → Data
ranked_data scoring pairs ranked = object (member (codes "names") (names_data pairs ranked.pair) (member (codes "pair") (count_data ranked.pair)
    (member (codes "place") (count_data ranked.place) (member (codes "total") (total_data scoring ranked) no_members))))

-- the pairs of a field, in order, or null where there is no such field
abbrev pub field_data : ConfigValue → Option (List Ranked) → Data
field_data configuration ranking =
    option_map_or (list_data (ranked_data configuration.scoring configuration.pairs)) ranking null

-- ---- the object

-- how scores are compared
abbrev pub scoring_text : Scoring → List ℕ
scoring_text MatchPoints = codes "matchpoints"
scoring_text Imps = codes "imps"

-- the event
abbrev pub event_data : ConfigValue → Data
event_data configuration = object (member (codes "date") (text_data configuration.date) (member (codes "event") (text_data configuration.event)
    (member (codes "scoring") (text_data (scoring_text configuration.scoring))
    (member (codes "site") (text_data configuration.site) no_members))))

-- the event, the rankings of both fields, and boards 1 to 36
unfoldable pub results_data : SessionValue → Option (List Ranked) → Option (List Ranked) → Data
results_data s first second = object (member (codes "boards") (list_data (board_data s) (range_with_len 1 36))
    (member (codes "event") (event_data s.configuration) (member (codes "first") (field_data s.configuration first)
    (member (codes "second") (field_data s.configuration second) no_members))))

-- The text is the object of the session.
abbrev pub IsObjectText : SessionValue → List ℕ → Type 0
IsObjectText s text = (first second : Option (List Ranked)) × IsFieldRanking s First first × IsFieldRanking s Second second
    × (text ≡ compact_text (results_data s first second))
