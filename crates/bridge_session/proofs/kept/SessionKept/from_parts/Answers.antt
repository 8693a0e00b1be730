use Rattle.std.proofs.Common.{◌≡◌, List, ℕ, Some, Result, Ok, Err, IfOk, map}
use Rattle.arrayvec.specs.ArrayVec.{ArrayVec}
use Rattle.session_store.specs.declared.disk_format.DiskFormat.{DiskFormat}
use Rattle.session_store.specs.declared.fault.PartsFault.{PartsFault}
use Rattle.session_bytes.specs.Parts.{HasRulings, parts_of}
use Rattle.session_rules.specs.State.{SessionValue}
use Rattle.session_rules.specs.StateRange.{IsSession}
use Rattle.session_bytes.specs.SessionKeeping.{session_of}
use Rattle.session_bytes.proofs.SessionOf.{session_of_is, no_session}
use Rattle.bridge_session.proofs.kept.SessionKept.from_parts.Goals as goal

-- a session that has the parts is theirs
found : (format : DiskFormat) (parts : List (List ℕ)) (result : Result SessionValue PartsFault) → IfOk result (λ s. parts_of format s ≡ parts)
    → IfOk result IsSession → IfOk result (HasRulings format) → IfOk result (λ s. session_of format parts ≡ Some s)
found format parts (Ok s) has is of_format = session_of_is format s parts is of_format has
found format parts (Err fault) has is of_format = tt

pub returns-clause-state : goal.returns-clause-state
returns-clause-state c = found c.args.format (map (λ (part : ArrayVec ℕ). part.items) c.args.parts.now) c.from_parts.result c.from_parts.ensures.parts c.from_parts.ensures.session c.from_parts.ensures.rulings

pub returns-clause-bad : goal.returns-clause-bad
returns-clause-bad c = λ bad. no_session c.args.format (map (λ (part : ArrayVec ℕ). part.items) c.args.parts.now) (c.from_parts.ensures.bad bad)
