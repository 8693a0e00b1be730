use Rattle.std.proofs.Common.{◌+◌, List, ℕ, ap, subst, ◌∙◌}
use Rattle.sector_disk.specs.Calls.{WriteCall}
use Rattle.session_store.specs.declared.disk_format.DiskFormat.TheVariants.{Two}
use Rattle.session_store.specs.Form.{part_mark, sector}
use Rattle.session_store.proofs.snapshot.write_part.Goals as goal

pub returns : goal.returns
returns g c =
    let bytes = ap (λ mark. sector mark c.args.epoch c.args.i c.as_slice.result.now) c.part_mark.ensures
    ∙ ap (sector (part_mark Two) c.args.epoch c.args.i) (c.as_slice.ensures.value ∙ c.write_part.ensures) in
    rw (← c.place_of.ensures.place)
    (subst (λ (b : List ℕ). WriteCall g.D.SectorDisk.disk c.args.disk.now c.write.new.self (c.place_of.result + 1 + c.args.i) b c.write.result)
    (c.make_sector-bytes.ensures ∙ bytes) (record { called = c.write.ensures.called; writes = c.write.ensures.writes }))
