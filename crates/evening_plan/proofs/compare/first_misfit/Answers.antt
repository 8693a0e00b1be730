use Rattle.evening_plan.specs.Misfit.{words_left}
use Rattle.evening_plan.proofs.Lines.{word_lacks}
use Rattle.evening_plan.proofs.compare.first_misfit.Goals as goal

pub returns-in_default : goal.returns-in_default
returns-in_default c =
    word_lacks c.args.check c.loop-part.at c.loop-part.previous.now c.args.parts.now c.loop-part.part-index (words_left c.loop-part.rest) _ c.loop-part-test.true c.in_default.ensures c.loop-part.invariant.judged
