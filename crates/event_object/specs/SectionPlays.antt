-- A play of a board in one of several sections in JSON: the section, who met, what came of it, and what each side gained against the
-- scores of all sections.
use Rattle.std.specs.Prelude.{ℕ, true, false, codes}
use Rattle.bridge_cards.specs.declared.scoring.Scoring.{Scoring}
use Rattle.bridge_results.specs.PlayCells.{line_score}
use Rattle.event_ranking.specs.EventText.{section_text}
use Rattle.event_results.specs.declared.play.SectionPlay.{SectionPlay}
use Rattle.serde_json.specs.Data.{Data, object, member, no_members}
use Rattle.results_object.specs.Values.{text_data, number_data}
use Rattle.results_object.specs.Plays.{averages_data, gain_data, gain_of, result_data, row_data}

-- a play
abbrev pub section_play_data : Scoring → ℕ → SectionPlay → Data
section_play_data scoring available play = object (member (codes "averages") (averages_data play.line.play.outcome)
    (member (codes "ew") (gain_data scoring available (gain_of false play.line.comparison))
    (member (codes "ns") (gain_data scoring available (gain_of true play.line.comparison))
    (member (codes "result") (result_data play.line.play) (member (codes "row") (row_data play.line.play.row)
    (member (codes "score") (number_data (line_score play.line.comparison))
    (member (codes "section") (text_data (section_text play.section)) no_members)))))))
