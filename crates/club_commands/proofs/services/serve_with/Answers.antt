use Rattle.std.proofs.KnownBytes.{Keeps-refl}
use Rattle.club_commands.proofs.services.serve_with.Goals as goal

pub returns-in-Connections : goal.returns-in-Connections
returns-in-Connections g c =
    rw (c.in-Ok.is, c.in-Connections.is, c.with_disk-in-Connections.ensures.ended)
    (c.listen-ended.new.store, c.with_disk-in-Connections.ensures.disk, (c.listen-ended.ensures, Keeps-refl _, Keeps-refl _))

pub returns-in-Pages : goal.returns-in-Pages
returns-in-Pages g c =
    let shown = c.show_over.ensures in
    rw (c.in-Ok.is, c.in-Pages.is) (shown.0, shown.1, (shown.2, Keeps-refl _))
