-- What came of a play.
use Rattle.std.specs.Prelude.{◌≤◌, if◌then◌else◌, List, Option, None, Some}
use Rattle.std.specs.Option.{option_map_or}
use Rattle.bridge_cards.specs.Seat.{side_of}
use Rattle.bridge_auction.specs.declared.call.Call.{Call}
use Rattle.bridge_auction.specs.Legal.{is_ended}
use Rattle.bridge_play.specs.Play.{tricks_by}
use Rattle.session_rules.specs.declared.outcome.Outcome.{Outcome}
use Rattle.session_rules.specs.declared.outcome.Outcome.TheVariants.{Unfinished, PassedOut, Played, Voided, Adjusted, Assigned}
use Rattle.session_rules.specs.declared.ruling.Ruling.{Ruling}
use Rattle.session_rules.specs.declared.ruling.Ruling.TheVariants as ruling
use Rattle.session_rules.specs.Record.{PlainRecord, Course, course_in, is_run}

-- without a ruling: declarer's tricks once the play is over
abbrev pub outcome_of_course : List Call → Option Course → Outcome
outcome_of_course calls None = if is_ended calls then PassedOut else Unfinished
outcome_of_course calls (Some course) =
    if is_run course
    then Played course.contract (tricks_by course.contract course.cards course.claim (side_of course.contract.declarer))
    else Unfinished

-- the latest ruling holds
abbrev pub outcome_by : List Call → Option Course → Option Ruling → Outcome
outcome_by calls course None = outcome_of_course calls course
outcome_by calls course (Some (ruling.Tricks tricks)) = option_map_or (λ (c : Course). Played c.contract tricks) course Unfinished
outcome_by calls course (Some ruling.Void) = Voided
outcome_by calls course (Some (ruling.Adjusted ns ew)) = Adjusted ns ew
outcome_by calls course (Some (ruling.Assigned contract tricks)) = Assigned contract tricks

-- what came of the play of a record
abbrev pub outcome_of : PlainRecord → Outcome
outcome_of plain = outcome_by plain.calls (course_in plain) plain.ruling

-- there are 13 tricks in a play
abbrev pub HasFewTricks : Outcome → Type 0
HasFewTricks (Played contract tricks) = tricks ≤ 13
HasFewTricks (Assigned contract tricks) = tricks ≤ 13
HasFewTricks _ = Unit {0}
