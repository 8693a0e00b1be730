use Rattle.std.proofs.Common.{◌+◌, List, ℕ, ap, subst, ◌∙◌}
use Rattle.sector_disk.specs.Calls.{WriteCall}
use Rattle.session_store.specs.declared.disk_format.DiskFormat.TheVariants.{Two}
use Rattle.session_store.specs.Form.{record_sector, record_mark, sector}
use Rattle.session_store.proofs.submitting.write_record.Goals as goal

pub returns-clause-call : goal.returns-clause-call
unfolding record_sector
returns-clause-call g c =
    let bytes = ap (λ mark. sector mark c.args.epoch c.args.number c.as_slice.result.now) c.record_mark.ensures
    ∙ ap (sector (record_mark Two) c.args.epoch c.args.number) (c.as_slice.ensures.value ∙ c.write_action.ensures.bytes) in
    subst (λ (b : List ℕ). WriteCall g.D.SectorDisk.disk c.args.disk.now c.write.new.self (1024 + c.args.number) b c.write.result)
    (c.make_sector-sector.ensures ∙ bytes) (record { called = c.write.ensures.called; writes = c.write.ensures.writes })
