use Rattle.std.proofs.Common.{◌≡◌, drop}
use Rattle.evening_draft.specs.AsciiName.{with_bytes}
use Rattle.evening_draft.proofs.ascii.push_bytes.Given as goal

abbrev pub invariant-loop-byte : goal.invariant-loop-byte
invariant-loop-byte l = with_bytes l.kept.items (drop l.byte-index l.bytes) ≡ with_bytes l.fn.kept.items l.bytes
