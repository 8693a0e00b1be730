use Rattle.std.proofs.Common.{arith}
use Rattle.std.proofs.lemmas.List.{same_lists}
use Rattle.evening_draft.proofs.form.are_same.Goals as goal

pub returns : goal.returns
returns c = λ _. same_lists c.args.ours.now c.args.theirs.now (omega (arith, c.if-ours-theirs.false))
    (λ k d below. c.loop-index.invariant k d (omega (arith, c.loop-index-test.false, below)))
