use Rattle.std.proofs.Common.{refl}
use Rattle.club_commands.proofs.web.show_misfit.Goals as goal

pub returns-in-Refused : goal.returns-in-Refused
returns-in-Refused g c =
    rw (c.in-Refused.is, c.with_disk.ensures.ended) (c.args.store, c.with_disk.ensures.disk, (c.refuse_list-ended.ensures, refl))

pub returns-in-LeftOut : goal.returns-in-LeftOut
returns-in-LeftOut g c = rw c.in-LeftOut.is c.show_named.ensures
