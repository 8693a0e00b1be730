-- What a session means to a store: its parts, its actions, its step. What it writes is of the second format.
use Rattle.std.proofs.Common.{◌≡◌, ℕ, List, Option, None, Some, Result, Ok, Err, inl, inr}
use Rattle.session_store.specs.Keeping.{Keeping}
use Rattle.session_store.specs.declared.disk_format.DiskFormat.{DiskFormat}
use Rattle.session_store.specs.declared.disk_format.DiskFormat.TheVariants.{Two}
use Rattle.session_rules.specs.declared.action.Action.{Action}
use Rattle.session_rules.specs.declared.refused.Refused.{Refused}
use Rattle.session_bytes.specs.ActionBytes.{action_bytes, action_of}
use Rattle.session_bytes.specs.ActionRange.{IsInRange}
use Rattle.session_rules.proofs.Decided.{Decided, decided_both}
use Rattle.session_bytes.specs.Parts.{parts_of}
use Rattle.session_bytes.specs.PartsRead.{state_read}
use Rattle.session_bytes.specs.Head.{HasHead}
use Rattle.session_rules.proofs.SessionDecided.{decided_session, decided_parts}
use Rattle.session_rules.specs.State.{SessionValue}
use Rattle.session_rules.specs.StateRange.{IsSession}
use Rattle.session_rules.specs.Step.{step_answer, changed}

-- the state is that of a session, and these are its parts in that format
abbrev pub HasPartsOfFormat : DiskFormat → SessionValue → List (List ℕ) → Type 0
HasPartsOfFormat format s parts = IsSession s × (parts_of format s ≡ parts)

-- whether that is so
pub decided_has_parts : (format : DiskFormat) (s : SessionValue) (parts : List (List ℕ)) → Decided (HasPartsOfFormat format s parts)
decided_has_parts format s parts = decided_both (decided_session s) (decided_parts (parts_of format s) parts)

-- the state, if it has the parts
abbrev pub with_parts : (format : DiskFormat) (s : SessionValue) (parts : List (List ℕ)) → Decided (HasPartsOfFormat format s parts) → Option SessionValue
with_parts format s parts (inl has) = Some s
with_parts format s parts (inr has_not) = None

-- The session of these parts of a format: what they name, if it is a session and these are its parts.
abbrev pub session_of : DiskFormat → List (List ℕ) → Option SessionValue
session_of format parts = with_parts format (state_read parts) parts (decided_has_parts format (state_read parts) parts)

-- the state after an action by the answer to it: changed where it is accepted
abbrev pub step_by : SessionValue → Action → Result (Unit {0}) Refused → Result SessionValue Refused
step_by s action (Ok done) = Ok (changed s action)
step_by s action (Err refused) = Err refused

-- What a session, its actions and its steps mean to a store.
abbrev pub session_keeping : Keeping SessionValue Action Refused
session_keeping = record {
  IsState = IsSession;
  IsAction = IsInRange;
  parts = parts_of Two;
  state_of = session_of;
  -- they begin with those of a configuration and a round of it, and are as many as its sessions have
  MayBe = λ format. HasHead;
  action_bytes = action_bytes;
  action_of = action_of;
  step = λ s action. step_by s action (step_answer s action);
}
