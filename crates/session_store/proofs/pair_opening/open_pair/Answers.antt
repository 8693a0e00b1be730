use Rattle.std.proofs.Common.{◌≤◌, refl, arith}
use Rattle.sector_disk.proofs.RunLaws.{quiet}
use Rattle.std.proofs.lemmas.Result.{IfOk-weaker, IfErr-weaker}
use Rattle.session_store.proofs.PairOpeningLemmas.{pair-opened, pair-not_joined, first-not_opened, not-compared, only-looked}
use Rattle.session_store.proofs.pair_opening.open_pair.Goals as goal

pub returns-in-Err-clause-refuses : goal.returns-in-Err-clause-refuses
returns-in-Err-clause-refuses g c =
    let compared = c.compare_epochs.ensures in
    rw c.new-in-Err.ensures (not-compared g.K.Kept.kept g.A.SectorDisk.disk g.B.SectorDisk.disk _ _ _ _ compared.first_quiet compared.second_quiet _ c.in-Err.ensures.cause)

pub returns-in-Ok-open-clause-opens : goal.returns-in-Ok-open-clause-opens
returns-in-Ok-open-clause-opens g c =
    let compared = c.in-Ok.ensures in
    IfOk-weaker c.join_disk.result _ _
    (λ both joined. pair-opened g.K.Kept.kept g.A.SectorDisk.disk g.B.SectorDisk.disk _ _ _ _ _ _ compared.first_quiet compared.second_quiet
    c.in-Ok-open.ensures.opens compared.own compared.settled compared.not_newer
    (omega (arith, c.if-count-lt-SECTORS.false, c.count.ensures.count)) (omega (arith, c.if-count-lt-SECTORS-2.false, c.count-2.ensures.count))
    compared.no_fault.0 compared.no_fault.1 both.0 both.1 joined)
    c.join_disk.ensures.joins

pub returns-in-Ok-open-clause-refuses : goal.returns-in-Ok-open-clause-refuses
returns-in-Ok-open-clause-refuses g c =
    let compared = c.in-Ok.ensures in
    IfErr-weaker c.join_disk.result _ _
    (λ e not. pair-not_joined g.K.Kept.kept g.A.SectorDisk.disk g.B.SectorDisk.disk _ _ _ _ _ _ compared.first_quiet compared.second_quiet
    c.in-Ok-open.ensures.opens compared.own compared.settled compared.not_newer
    (omega (arith, c.if-count-lt-SECTORS.false, c.count.ensures.count)) (omega (arith, c.if-count-lt-SECTORS-2.false, c.count-2.ensures.count))
    compared.no_fault.0 compared.no_fault.1 e.first e.second e.fault not)
    c.join_disk.ensures.fault

pub returns-then-count-lt-SECTORS-2-clause-refuses :
    goal.returns-then-count-lt-SECTORS-2-clause-refuses
returns-then-count-lt-SECTORS-2-clause-refuses g c =
    let first = g.A.SectorDisk.disk in
    let second = g.B.SectorDisk.disk in
    rw c.new-then-count-lt-SECTORS-2.ensures (
    only-looked g.K.Kept.kept first second c.args.first c.args.first c.args.second c.args.second
    (quiet first c.args.first) (quiet second c.args.second) _ (λ same. cc) (omega (arith, c.if-count-lt-SECTORS-2.true, c.count-2.ensures.count), refl, refl)
    )

pub returns-in-Err-open-clause-refuses : goal.returns-in-Err-open-clause-refuses
returns-in-Err-open-clause-refuses g c =
    let first = g.A.SectorDisk.disk in
    let compared = c.compare_epochs.ensures in
    let large : 2048 ≤ first.count c.compare_epochs.new.first
    = omega (arith, compared.first_quiet.remains.count, c.if-count-lt-SECTORS.false, c.count.ensures.count) in
    first-not_opened g.K.Kept.kept first g.B.SectorDisk.disk _ _ _ _ compared.first_quiet compared.second_quiet _ _
    c.in-Ok.ensures.no_fault.0 (c.in-Err-open.ensures.refuses large)

pub returns-then-count-lt-SECTORS-clause-refuses :
    goal.returns-then-count-lt-SECTORS-clause-refuses
returns-then-count-lt-SECTORS-clause-refuses g c =
    let first = g.A.SectorDisk.disk in
    let second = g.B.SectorDisk.disk in
    rw c.new.ensures (
    only-looked g.K.Kept.kept first second c.args.first c.args.first c.args.second c.args.second
    (quiet first c.args.first) (quiet second c.args.second) _ (λ same. cc) (omega (arith, c.if-count-lt-SECTORS.true, c.count.ensures.count), refl, refl)
    )
