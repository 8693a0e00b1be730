use Rattle.std.proofs.Common.{inl, inr, refl}
use Rattle.session_store.specs.declared.fault.PairFault.TheVariants.{Second}
use Rattle.session_store.specs.declared.fault.StoreFault.TheVariants.{Disk as DiskFailed}
use Rattle.session_pair.specs.Joining.{IsOne}
use Rattle.session_pair.proofs.JoiningLemmas.{decided_not, second_lost, unopened}
use Rattle.session_pair.proofs.joining.open_both.Goals as goal

pub returns-else-are_level-clause-fault : goal.returns-else-are_level-clause-fault
returns-else-are_level-clause-fault g c =
    let disk = g.D.SectorDisk.disk in
    let none = decided_not c.are_level.result (IsOne c.in-Ok.first c.in-Ok.second) c.are_level.ensures.1 c.if-are_level.false in
    let lost = second_lost disk c.args.first c.args.second c.in-Ok.first c.in-Ok.second c.in-Ok.ensures.opens none in
    unopened disk c.args.first c.args.second c.into_disk.result c.into_disk-in-Ok.result c.given_back.result.disk c.given_back.result.copy
    c.args.judged.disk_first (Second DiskFailed) c.given_back.result.fault
    (inr (c.in-Ok.first, c.in-Ok.second, refl, c.in-Ok.ensures.opens, lost, c.into_disk.ensures.disk, c.into_disk-in-Ok.ensures.disk))
    c.given_back.ensures.fault c.given_back.ensures.disks

pub returns-in-Err-clause-fault : goal.returns-in-Err-clause-fault
returns-in-Err-clause-fault g c =
    let disk = g.D.SectorDisk.disk in
    let pair = c.in-Err.unopened in
    unopened disk c.args.first c.args.second pair.first pair.second c.given_back-in-Err.result.disk c.given_back-in-Err.result.copy
    c.args.judged.disk_first pair.fault c.given_back-in-Err.result.fault (inl c.in-Err.ensures.refuses)
    c.given_back-in-Err.ensures.fault c.given_back-in-Err.ensures.disks
