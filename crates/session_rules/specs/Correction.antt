-- The director's rulings: the answer, and what is left of them.
use Rattle.std.specs.Prelude.{Bool, not, ◌&&◌, if◌then◌else◌, List, Option, None, Some, Ok, Err}
use Rattle.bridge_auction.specs.declared.call.Call.{Call}
use Rattle.bridge_score.specs.declared.Scoring.{Scoring}
use Rattle.bridge_score.specs.declared.Scoring.TheVariants.{MatchPoints, Imps}
use Rattle.session_rules.specs.declared.correction.Correction.{Correction}
use Rattle.session_rules.specs.declared.correction.Correction.TheVariants as correction
use Rattle.session_rules.specs.declared.refused.Refused.TheVariants.{NoContract, NotFinished, NotMatchPoints}
use Rattle.session_rules.specs.declared.ruling.Ruling.{Ruling}
use Rattle.session_rules.specs.declared.ruling.Ruling.TheVariants as ruling
use Rattle.session_rules.specs.Answer.{Answer}
use Rattle.session_rules.specs.Record.{Course, is_run, is_done}

-- the ruling that is left: the latest, or none
abbrev pub ruling_by : Correction → Option Ruling
ruling_by (correction.Tricks tricks) = Some (ruling.Tricks tricks)
ruling_by correction.Void = Some ruling.Void
ruling_by (correction.Adjust ns ew) = Some (ruling.Adjusted ns ew)
ruling_by (correction.Assign contract tricks) = Some (ruling.Assigned contract tricks)
ruling_by correction.Restore = None

-- declarer's tricks can be set once the play is over
abbrev pub tricks_answer : Option Course → Answer
tricks_answer None = Err NoContract
tricks_answer (Some course) = if is_run course then Ok tt else Err NotFinished

-- averages are of matchpoints
abbrev pub adjust_answer : Scoring → Answer
adjust_answer MatchPoints = Ok tt
adjust_answer Imps = Err NotMatchPoints

-- The answer to a ruling on a play with these calls and that course. A ruling cannot be taken back from an unfinished play of a
-- round that is over.
abbrev pub ruling_answer : Scoring → List Call → Option Course → Correction → Bool → Answer
ruling_answer scoring calls course (correction.Tricks tricks) round_is_over = tricks_answer course
ruling_answer scoring calls course correction.Void round_is_over = Ok tt
ruling_answer scoring calls course (correction.Adjust ns ew) round_is_over = adjust_answer scoring
ruling_answer scoring calls course (correction.Assign contract tricks) round_is_over = Ok tt
ruling_answer scoring calls course correction.Restore round_is_over =
    if round_is_over && not (is_done calls course) then Err NotFinished else Ok tt
