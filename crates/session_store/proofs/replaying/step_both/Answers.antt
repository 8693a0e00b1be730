use Rattle.std.proofs.Common.{sym, ap, ◌∙◌}
use Rattle.std.proofs.lemmas.Result.{err_from_is_err_and}
use Rattle.session_store.proofs.replaying.step_both.Goals as goal

pub returns-in_err-step-clause-step : goal.returns-in_err-step-clause-step
returns-in_err-step-clause-step g c =
    let p = err_from_is_err_and c.from_residual.result c.from_residual.ensures.1 in
    rw (p.1, p.2) (ap (λ s. g.K.Kept.kept.step s c.args.action.now) (sym c.requires) ∙ c.in_err-step.ensures.step)

pub returns-in_err-step-2-clause-step : goal.returns-in_err-step-2-clause-step
returns-in_err-step-2-clause-step g c =
    let p = err_from_is_err_and c.from_residual-in_err-step-2.result c.from_residual-in_err-step-2.ensures.1 in
    rw (p.1, p.2) c.in_err-step-2.ensures.step

pub returns-clause-step : goal.returns-clause-step
returns-clause-step g c = c.in_ok-step-2.ensures.step

pub returns-clause-same : goal.returns-clause-same
returns-clause-same g c =
    let same = sym c.in_ok-step.ensures.step ∙ ap (λ s. g.K.Kept.kept.step s c.args.action.now) c.requires ∙ c.in_ok-step-2.ensures.step in cc
