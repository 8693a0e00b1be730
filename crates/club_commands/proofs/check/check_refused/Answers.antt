use Rattle.std.proofs.Common.{inl, inr, refl}
use Rattle.std.proofs.lemmas.Result.{err_from_is_err_and}
use Rattle.club_commands.proofs.check.check_refused.Goals as goal

pub returns-in_ok-tell_older-in-Damaged : goal.returns-in_ok-tell_older-in-Damaged
returns-in_ok-tell_older-in-Damaged g c =
    let told = c.in_ok-tell_older-in-Damaged.ensures in
    rw c.in-Damaged.is (told.0, told.1, inl (told.2.0, refl))

pub returns-in_err-tell_older-in-Damaged : goal.returns-in_err-tell_older-in-Damaged
returns-in_err-tell_older-in-Damaged g c =
    let told = c.in_err-tell_older-in-Damaged.ensures in
    let p = err_from_is_err_and c.from_residual.result c.from_residual.ensures.1 in
    rw (c.in-Damaged.is, p.1, p.2) (told.0, told.1, inr told.2)
