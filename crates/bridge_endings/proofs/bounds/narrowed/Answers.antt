use Rattle.std.proofs.Common.{◌∙◌, sym, arith}
use Rattle.std.proofs.lemmas.Bool.{leb-true, leb-false}
use Rattle.bridge_endings.proofs.bounds.narrowed.Goals as goal

pub returns-then-answer-clause-bounded : goal.returns-then-answer-clause-bounded
returns-then-answer-clause-bounded c = λ worth between is. record {
  least = leb-true _ _ (sym is ∙ c.if-answer.true);
  most = between.most;
}

pub returns-else-answer-clause-bounded : goal.returns-else-answer-clause-bounded
returns-else-answer-clause-bounded c = λ worth between is.
    let below = leb-false _ _ (sym is ∙ c.if-answer.false) in
    record { least = between.least; most = omega (arith, below) }
