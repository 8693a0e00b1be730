-- What stands beside the session, and how it changes.
use Rattle.std.specs.Prelude.{ℕ, ◌-◌, ◌==◌, ◌&&◌, Bool, false, if◌then◌else◌, List, replicate, slice_get, slice_set, unwrap_or, Option, Some, None}
use Rattle.bridge_cards.specs.Seat.{same_seat}
use Rattle.desk_replies.specs.declared.desk.Desk.{Desk}
use Rattle.desk_replies.specs.declared.desk.RoundClock.{RoundClock}
use Rattle.desk_replies.specs.declared.kept.KeptDisks.{KeptDisks}
use Rattle.desk_replies.specs.declared.said.StandingClaim.{StandingClaim}
use Rattle.desk_replies.specs.declared.said.Statement.{Statement}
use Rattle.desk_replies.specs.declared.desk.TableCall.{TableCall}
use Rattle.desk_replies.specs.declared.said.ClaimRefusal.{ClaimRefusal}
use Rattle.desk_replies.specs.PlainText.{plain_text_of}

-- nothing is known of what is kept on a disk
abbrev pub no_disks : KeptDisks
no_disks = record { first = None; second = None }

-- nothing stands beside a session on this disk, which is shown up to that second
abbrev pub new_desk : ℕ → List ℕ → Desk
new_desk ends disk = record {
  ends = ends;
  disk = plain_text_of 1 200 disk;
  kept = no_disks;
  notice = None;
  noticed = None;
  clock = None;
  calls = replicate 12 None;
  statements = replicate 12 None;
  refusals = replicate 12 None;
}

-- the same beside a session on another disk
abbrev pub with_disk : Desk → List ℕ → Desk
with_disk desk disk = record desk { disk = plain_text_of 1 200 disk }

-- the same beside one of which that is kept
abbrev pub with_kept : Desk → KeptDisks → Desk
with_kept desk kept = record desk { kept = kept }

-- the call of a table, if there is one
abbrev pub call_at : Desk → ℕ → Option TableCall
call_at desk table = unwrap_or (slice_get desk.calls (table - 1)) None

-- the last statement at a table, if there was one
abbrev pub statement_at : Desk → ℕ → Option Statement
statement_at desk table = unwrap_or (slice_get desk.statements (table - 1)) None

-- the last refusal that was said at a table, if there was one
abbrev pub refusal_at : Desk → ℕ → Option ClaimRefusal
refusal_at desk table = unwrap_or (slice_get desk.refusals (table - 1)) None

-- a notice was put up in this second
abbrev pub is_soon : ℕ → Option ℕ → Bool
is_soon at None = false
is_soon at (Some last) = at == last

-- with this notice, which is put up at that second
abbrev pub with_notice : Desk → ℕ → List ℕ → Desk
with_notice desk at text = record {
  ends = desk.ends;
  disk = desk.disk;
  kept = desk.kept;
  notice = Some text;
  noticed = Some at;
  clock = desk.clock;
  calls = desk.calls;
  statements = desk.statements;
  refusals = desk.refusals;
}

-- with no notice
abbrev pub without_notice : Desk → Desk
without_notice desk = record {
  ends = desk.ends;
  disk = desk.disk;
  kept = desk.kept;
  notice = None;
  noticed = desk.noticed;
  clock = desk.clock;
  calls = desk.calls;
  statements = desk.statements;
  refusals = desk.refusals;
}

-- with that clock, or none
abbrev pub with_clock : Desk → Option RoundClock → Desk
with_clock desk clock = record {
  ends = desk.ends;
  disk = desk.disk;
  kept = desk.kept;
  notice = desk.notice;
  noticed = desk.noticed;
  clock = clock;
  calls = desk.calls;
  statements = desk.statements;
  refusals = desk.refusals;
}

-- with that call of a table, or none
abbrev pub set_call : Desk → ℕ → Option TableCall → Desk
set_call desk table call = record {
  ends = desk.ends;
  disk = desk.disk;
  kept = desk.kept;
  notice = desk.notice;
  noticed = desk.noticed;
  clock = desk.clock;
  calls = slice_set desk.calls (table - 1) call;
  statements = desk.statements;
  refusals = desk.refusals;
}

-- a call, unless there is one of its table already
abbrev pub with_call_beside : Option TableCall → Desk → TableCall → Desk
with_call_beside (Some other) desk call = desk
with_call_beside None desk call = set_call desk call.table (Some call)

-- a call, unless there is one of its table already
abbrev pub with_call : Desk → TableCall → Desk
with_call desk call = with_call_beside (call_at desk call.table) desk call

-- the same claim
abbrev pub same_claim : StandingClaim → StandingClaim → Bool
same_claim one other =
    one.round == other.round && (one.index == other.index && (one.number == other.number && same_seat one.claimer other.claimer))

-- a statement is that of this claim
abbrev pub is_said_with : StandingClaim → Option Statement → Bool
is_said_with claim None = false
is_said_with claim (Some statement) = same_claim statement.claim claim

-- with that statement at a table
abbrev pub set_statement : Desk → ℕ → Statement → Desk
set_statement desk table statement = record {
  ends = desk.ends;
  disk = desk.disk;
  kept = desk.kept;
  notice = desk.notice;
  noticed = desk.noticed;
  clock = desk.clock;
  calls = desk.calls;
  statements = slice_set desk.statements (table - 1) (Some statement);
  refusals = desk.refusals;
}

-- with what is said with a claim at a table, unless something was said with it already
abbrev pub with_statement : Desk → ℕ → Statement → Desk
with_statement desk table statement =
    if is_said_with statement.claim (statement_at desk table) then desk else set_statement desk table statement

-- a refusal is of this claim
abbrev pub is_refusal_of : StandingClaim → Option ClaimRefusal → Bool
is_refusal_of claim None = false
is_refusal_of claim (Some refusal) = same_claim refusal.claim claim

-- with that refusal at a table
abbrev pub set_refusal : Desk → ℕ → ClaimRefusal → Desk
set_refusal desk table refusal = record {
  ends = desk.ends;
  disk = desk.disk;
  kept = desk.kept;
  notice = desk.notice;
  noticed = desk.noticed;
  clock = desk.clock;
  calls = desk.calls;
  statements = desk.statements;
  refusals = slice_set desk.refusals (table - 1) (Some refusal);
}

-- with that refusal at a table, unless there is one of the same claim already
abbrev pub with_refusal : Desk → ℕ → ClaimRefusal → Desk
with_refusal desk table refusal =
    if is_refusal_of refusal.claim (refusal_at desk table) then desk else set_refusal desk table refusal
