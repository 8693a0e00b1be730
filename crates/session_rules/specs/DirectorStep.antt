-- What the director does: the answer, and what changes.
use Rattle.std.specs.Prelude.{ℕ, ◌-◌, ◌*◌, nat_lt, nat_le, Bool, not, ◌==◌, ◌&&◌, if◌then◌else◌, is_some, is_none, length, List, take, drop, Option, None, Some, Ok, Err}
use Rattle.std.specs.List.{list_any}
use Rattle.bridge_cards.specs.Deal.{is_dealt_out}
use Rattle.bridge_score.specs.declared.Scoring.{Scoring}
use Rattle.session_rules.specs.declared.action.PlayId.{PlayId}
use Rattle.session_rules.specs.declared.correction.Correction.{Correction}
use Rattle.session_rules.specs.declared.refused.Refused.TheVariants.{Closed, NoSuchPlay, NotYet, NotDealt, Stale, AlreadyDealt, BadDeal, RoundOpen, RulingStands, BoardBegun}
use Rattle.session_rules.specs.Answer.{Answer}
use Rattle.session_rules.specs.Record.{PlainRecord, course_in, is_open}
use Rattle.session_rules.specs.Correction.{ruling_by, ruling_answer}
use Rattle.bridge_movement.specs.Shape.{index_of_row, rows_before}
use Rattle.session_rules.specs.State.{SessionValue, deal_on, changed_at, is_closed}

-- an answer, if the director may act
abbrev pub if_allowed : Answer → Answer → Answer
if_allowed (Err refused) answer = Err refused
if_allowed (Ok allowed) answer = answer

-- the answer to a deal of the board
abbrev pub deal_answer : SessionValue → ℕ → List ℕ → Answer
deal_answer s board hands =
    if is_closed s.configuration s.round then Err Closed
    else if not (nat_le board (s.configuration.movement.shape.sets * s.configuration.boards)) then Err NoSuchPlay
    else if is_some (deal_on s.deals board) then Err AlreadyDealt
    else if not (is_dealt_out hands) then Err BadDeal
    else Ok tt

-- a call was made in the play, which is of the board
abbrev pub is_begun_on : ℕ → PlainRecord → Bool
is_begun_on board plain = plain.board == board && not (length plain.calls == 0)

-- a ruling stands on the play, which is of the board
abbrev pub is_ruled_on : ℕ → PlainRecord → Bool
is_ruled_on board plain = plain.board == board && is_some plain.ruling

-- the answer where the deal of the board is taken back
abbrev pub undeal_answer : SessionValue → ℕ → Answer
undeal_answer s board =
    if is_closed s.configuration s.round then Err Closed
    else if not (nat_le board (s.configuration.movement.shape.sets * s.configuration.boards)) then Err NoSuchPlay
    else if is_none (deal_on s.deals board) then Err NotDealt
    else if list_any (list_any (is_begun_on board)) s.records then Err BoardBegun
    else if list_any (list_any (is_ruled_on board)) s.records then Err RulingStands
    else Ok tt

-- the records of the tables in the current round
abbrev pub records_of_round : SessionValue → List (List PlainRecord)
records_of_round s =
    take s.configuration.movement.shape.tables (drop (rows_before s.configuration.movement.shape s.round) s.records)

-- the answer to the end of a round
abbrev pub next_answer : SessionValue → ℕ → Answer
next_answer s round =
    if is_closed s.configuration s.round then Err Closed
    else if not (round == s.round) then Err Stale
    else if list_any (list_any is_open) (records_of_round s) then Err RoundOpen
    else Ok tt

-- the answer to a ruling on the play of that record, if there is such a play
abbrev pub rule_answer : Scoring → ℕ → ℕ → Correction → Option PlainRecord → Answer
rule_answer scoring now round correction None = Err NoSuchPlay
rule_answer scoring now round correction (Some plain) =
    if nat_lt now round then Err NotYet else ruling_answer scoring plain.calls (course_in plain) correction (nat_lt round now)

-- the record with what is left of a ruling
abbrev pub with_ruling : Correction → PlainRecord → PlainRecord
with_ruling correction plain = record plain { ruling = ruling_by correction }

-- the session after a ruling on the play
abbrev pub ruled : SessionValue → PlayId → Correction → SessionValue
ruled s play correction = record s {
  records = changed_at (λ records. changed_at (with_ruling correction) records (play.index - 1)) s.records
      (index_of_row s.configuration.movement.shape play.round play.table);
}
