use Rattle.std.proofs.Common.{inl, inr, refl, ap, Err}
use Rattle.std.proofs.lemmas.Result.{err_from_is_err_and}
use Rattle.club_commands.proofs.Shown.{on_ok}
use Rattle.club_commands.proofs.web.show_heard.Goals as goal

pub returns-in_err-write_output-clause-heard : goal.returns-in_err-write_output-clause-heard
returns-in_err-write_output-clause-heard g c =
    let p = err_from_is_err_and c.from_residual-in_err-write_output.result c.from_residual-in_err-write_output.ensures.1 in
    rw (p.1, p.2) (on_ok c.args.found (inr (inl (rw (← c.requires.line) c.in_err-write_output.ensures.0, ap Err c.in_err-write_output.ensures.1, refl))))

pub returns-clause-heard : goal.returns-clause-heard
returns-clause-heard g c = on_ok c.args.found (inl (rw (← c.requires.line) c.in_ok-write_output.ensures.0, c.show_pages.ensures))
