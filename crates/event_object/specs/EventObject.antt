-- The results of several sections as one field as one object of JSON, without spaces; members stand in the order of their names.
use Rattle.std.specs.Prelude.{◌≡◌, ℕ, List, [], ◌∷◌, codes, map, slice_get}
use Rattle.std.specs.List.{range_with_len}
use Rattle.std.specs.Option.{option_map_or}
use Rattle.bridge_cards.specs.Board.{dealer_of, vulnerability_on}
use Rattle.bridge_cards.specs.Seat.{seat_letter}
use Rattle.bridge_cards.specs.Vulnerability.{vulnerability_text}
use Rattle.bridge_cards.specs.declared.seat.Side.TheVariants.{NorthSouth}
use Rattle.bridge_ranking.specs.declared.field.Field.TheVariants.{First, Second}
use Rattle.bridge_ranking.specs.Ranking.{games_of, scores_on, available_of}
use Rattle.session_rules.specs.State.{SessionValue}
use Rattle.event_ranking.specs.declared.ranking.SectionRanked.{SectionRanked}
use Rattle.event_ranking.specs.Dealt.{first_deal}
use Rattle.event_ranking.specs.EventRanking.{scoring_of, IsFieldRanking}
use Rattle.event_ranking.specs.Joint.{joint}
use Rattle.event_results.specs.EventTraveller.{event_traveller}
use Rattle.serde_json.specs.Data.{Data, null, object, member, no_members}
use Rattle.serde_json.specs.Written.{compact_text}
use Rattle.results_object.specs.Values.{text_data, count_data, list_data}
use Rattle.results_object.specs.Object.{deal_data, event_data}
use Rattle.event_object.specs.Sections.{sections_data}
use Rattle.event_object.specs.SectionPlays.{section_play_data}
use Rattle.event_object.specs.SectionRankings.{field_data}

-- what was available on a board to each side, against the scores of all sections
abbrev pub available_on : List SessionValue → ℕ → ℕ
available_on sections board = available_of (scores_on (joint (map games_of sections)) NorthSouth board)

-- a board with the plays of its traveller over all sections, in its order
unfoldable pub board_data : List SessionValue → ℕ → Data
board_data sections board = object (member (codes "board") (count_data board)
    (member (codes "deal") (deal_data board (first_deal sections board))
    (member (codes "dealer") (text_data (seat_letter (dealer_of board) ∷ []))
    (member (codes "plays") (list_data (section_play_data (scoring_of sections) (available_on sections board)) (event_traveller sections board))
    (member (codes "vulnerable") (text_data (vulnerability_text (vulnerability_on board))) no_members)))))

-- the event, as the first section's configuration has it
abbrev pub first_event_data : List SessionValue → Data
first_event_data sections = option_map_or (λ (s : SessionValue). event_data s.configuration) (slice_get sections 0) null

-- boards 1 to 36, the event, the rankings of both fields over all sections, and the sections
unfoldable pub event_results_data : List SessionValue → List SectionRanked → List SectionRanked → Data
event_results_data sections first second = object (member (codes "boards") (list_data (board_data sections) (range_with_len 1 36))
    (member (codes "event") (first_event_data sections) (member (codes "first") (field_data (scoring_of sections) sections first)
    (member (codes "second") (field_data (scoring_of sections) sections second)
    (member (codes "sections") (sections_data sections) no_members)))))

-- The text is the object of the sections.
abbrev pub IsEventObjectText : List SessionValue → List ℕ → Type 0
IsEventObjectText sections text = (first second : List SectionRanked) × IsFieldRanking sections First first × IsFieldRanking sections Second second
    × (text ≡ compact_text (event_results_data sections first second))
