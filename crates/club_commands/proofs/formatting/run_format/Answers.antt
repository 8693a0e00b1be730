use Rattle.std.proofs.Common.{inr, refl}
use Rattle.std.proofs.KnownBytes.{Keeps-refl}
use Rattle.std.proofs.lemmas.Result.{err_from_is_err_and}
use Rattle.club_commands.proofs.formatting.run_format.Goals as goal

pub returns-in_err-session : goal.returns-in_err-session
returns-in_err-session g c =
    let p = err_from_is_err_and c.from_residual.result c.from_residual.ensures.1 in
    rw (p.1, p.2)
    (inr (_, c.in_err-session.ensures, refl, Keeps-refl (g.R.Read.remaining c.args.input.now), Keeps-refl (g.W.Write.contents c.args.output.now)))
