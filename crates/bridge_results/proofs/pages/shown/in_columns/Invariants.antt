use Rattle.std.proofs.Common.{◌≡◌, ◌++◌, replicate}
use Rattle.bridge_results.proofs.pages.shown.in_columns.Given as goal

abbrev pub invariant-loop-blank : goal.invariant-loop-blank
invariant-loop-blank l = l.cell.bytes ≡ l.text ++ replicate l._blank 32
