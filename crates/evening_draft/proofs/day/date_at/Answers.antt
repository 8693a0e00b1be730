use Rattle.std.proofs.Common.{◌∙◌, ◌/◌, ◌<◌, ◌^◌, arith, w64}
use Rattle.std.proofs.lemmas.Int.{to_z_pos}
use Rattle.evening_draft.proofs.day.date_at.Goals as goal

pub returns-in-Ok-clause-date : goal.returns-in-Ok-clause-date
returns-in-Ok-clause-date c =
    let small : c.args.seconds / 86400 < 2 ^ 63 = omega (arith, c.ranges.seconds.fits) in
    (c.in-Ok.date, c.in-Ok.ensures.value ∙ to_z_pos w64 (c.args.seconds / 86400) small, c.date_text.ensures)
