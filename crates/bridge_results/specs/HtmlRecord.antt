-- What is shown of a play, and the session's record.
use Rattle.std.specs.Prelude.{◌≡◌, Contains, Some}
use Rattle.session_rules.specs.Outcome.{outcome_of}
use Rattle.session_rules.specs.Record.{PlainRecord}
use Rattle.session_rules.specs.State.{SessionValue}
use Rattle.bridge_results.specs.declared.play.TablePlay.{TablePlay}
use Rattle.bridge_results.specs.HtmlCourse.{shown_record}

-- The play is one of a row of the movement, the record that is shown of it is there, and is of the same board, and what came of it is
-- what the line says.
pub record IsShownAsRecorded (s : SessionValue) (play : TablePlay) : Type 0 where
  pub row : Contains s.configuration.movement.rows play.row
  pub plain : PlainRecord
  pub found : shown_record s play ≡ Some plain
  pub board : plain.board ≡ play.board
  pub outcome : outcome_of plain ≡ play.outcome
