use Rattle.std.proofs.Common.{◌≡◌, ◌+◌, ◌++◌, length, replicate}
use Rattle.results_pbn.proofs.cells.push_blanks.Given as goal

abbrev pub invariant-loop-blank : goal.invariant-loop-blank
invariant-loop-blank l = record {
  text : l.text.items ≡ l.fn.text.items ++ replicate l._blank 32;
  room : length l.text.items ≡ length l.fn.text.items + l._blank;
}
