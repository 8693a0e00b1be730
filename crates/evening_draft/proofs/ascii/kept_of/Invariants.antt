use Rattle.std.proofs.Common.{◌≡◌, [], IsUtf8, chars}
use Rattle.std.specs.Str.Iter.{chars_rest}
use Rattle.evening_draft.specs.AsciiName.{with_characters}
use Rattle.evening_draft.proofs.ascii.kept_of.Given as goal

abbrev pub invariant-loop-c : goal.invariant-loop-c
invariant-loop-c l =
    IsUtf8 (chars_rest l.c-iterator)
    × (with_characters l.kept.items (chars (chars_rest l.c-iterator)) ≡ with_characters [] (chars l.fn.name))
