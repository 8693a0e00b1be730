use Rattle.std.proofs.Common.{inl, inr, refl}
use Rattle.std.proofs.KnownBytes.{Keeps-refl}
use Rattle.std.proofs.lemmas.Result.{err_from_is_err_and}
use Rattle.club_commands.proofs.evening.keep_evening.Goals as goal

pub returns-in_err-keep_slips : goal.returns-in_err-keep_slips
returns-in_err-keep_slips g c =
    let read = g.R.Read.remaining c.args.input.now in
    let written = g.W.Write.contents c.args.output.now in
    let p = err_from_is_err_and c.from_residual-in_err-keep_slips.result c.from_residual-in_err-keep_slips.ensures.1 in
    rw (p.1, p.2)
    (inl (
      read,
      written,
      (c.in_ok-keep_config.ensures, Keeps-refl read, Keeps-refl written),
      inr (_, (c.in_err-keep_slips.ensures, Keeps-refl read, Keeps-refl written), refl),
    ))

pub returns : goal.returns
returns g c =
    let read = g.R.Read.remaining c.args.input.now in
    let written = g.W.Write.contents c.args.output.now in
    inl (
      read,
      written,
      (c.in_ok-keep_config.ensures, Keeps-refl read, Keeps-refl written),
      inl (read, written, (c.in_ok-keep_slips.ensures, Keeps-refl read, Keeps-refl written), c.keep_session.ensures),
    )
