use Rattle.std.proofs.Common.{◌≡◌, ◌-◌, ◌≤◌, drop}
use Rattle.std.specs.Str.Lines.{lines}
use Rattle.evening_plan.proofs.kind.line_at.Given as goal

-- what is left are the lines from there on
abbrev pub invariant-loop-index : goal.invariant-loop-index
invariant-loop-index l = record {
  left : lines l.rest ≡ drop (l._index - 1) (lines l.text);
  least : 1 ≤ l._index;
  most : l._index - 1 ≤ l.number - 1;
}
