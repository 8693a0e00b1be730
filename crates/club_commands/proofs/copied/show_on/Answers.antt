use Rattle.std.proofs.Common.{inl, inr, refl}
use Rattle.std.proofs.KnownBytes.{Keeps-refl}
use Rattle.club_commands.proofs.copied.show_on.Goals as goal

pub returns-in-Ok : goal.returns-in-Ok
returns-in-Ok g c =
    let joined = c.in-Ok.joined in
    inr (joined.judged, joined.first, joined.second, c.in-Ok.ensures.joined, c.show_opened.ensures)

pub returns-in-Err : goal.returns-in-Err
returns-in-Err g c =
    let unjoined = c.in-Err.unjoined in
    inl (_, (unjoined.fault, unjoined.disk, unjoined.copy, c.in-Err.ensures.fault, refl), refl, Keeps-refl _)
