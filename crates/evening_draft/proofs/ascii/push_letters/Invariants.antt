use Rattle.std.proofs.Common.{◌≡◌, drop}
use Rattle.evening_draft.specs.AsciiName.{with_letters}
use Rattle.evening_draft.proofs.ascii.push_letters.Given as goal

abbrev pub invariant-loop-c : goal.invariant-loop-c
invariant-loop-c l = with_letters l.kept.items (drop l.c-index l.characters) ≡ with_letters l.fn.kept.items l.characters
