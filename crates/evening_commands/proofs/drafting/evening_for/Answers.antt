use Rattle.std.proofs.Common.{inl, inr, refl}
use Rattle.std.proofs.lemmas.Result.{err_from_is_err_and}
use Rattle.evening_commands.proofs.drafting.evening_for.Goals as goal

pub returns-in_err-seed : goal.returns-in_err-seed
returns-in_err-seed g c =
    let p = err_from_is_err_and c.from_residual.result c.from_residual.ensures.1 in
    rw (p.1, p.2) (inl (inl c.in_err-seed.ensures.fault))

pub returns-in-Some : goal.returns-in-Some
returns-in-Some g c =
    inr (c.in-Some.date.now, c.in_ok-seed.seed, rw c.in-Some.is refl, c.in_ok-seed.ensures.seed, c.evening_on.ensures)

pub returns-in_ok-date-in-None : goal.returns-in_ok-date-in-None
returns-in_ok-date-in-None g c =
    inr (c.as_str.result.now, c.in_ok-seed.seed, rw c.in-None.is (rw c.as_str.ensures.value c.in_ok-date-in-None.ensures.date), c.in_ok-seed.ensures.seed, c.evening_on-in-None.ensures)
