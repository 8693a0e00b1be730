use Rattle.std.proofs.Common.{◌≡◌, ◌+◌, [], drop}
use Rattle.line_text.specs.Words.{spaced_words}
use Rattle.evening_plan.specs.Misfit.{words_left, first_misfit}
use Rattle.evening_plan.proofs.compare.first_misfit.Given as goal

-- the words so far are as they must be
abbrev pub invariant-loop-part : goal.invariant-loop-part
invariant-loop-part l = record {
  judged : first_misfit l.check l.at l.previous (drop l.part-index l.parts) (words_left l.rest)
      ≡ first_misfit l.check 1 [] l.parts (spaced_words l.line);
  number : l.at ≡ l.part-index + 1;
}
