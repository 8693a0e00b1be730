use Rattle.std.proofs.Common.{◌≡◌, IsUtf8, chars}
use Rattle.std.specs.List.{list_all}
use Rattle.std.specs.Str.Iter.{chars_rest}
use Rattle.evening_draft.specs.Names.{is_plain}
use Rattle.evening_draft.proofs.person.are_plain.Given as goal

abbrev pub invariant-loop-c : goal.invariant-loop-c
invariant-loop-c l =
    IsUtf8 (chars_rest l.c-iterator)
    × (list_all is_plain (chars (chars_rest l.c-iterator)) ≡ list_all is_plain (chars l.fn.name))
