use Rattle.std.proofs.Common.{◌≡◌, ◌+◌, ◌-◌, map, refl, sym, ap, ◌∙◌, inl, inr, arith}
use Rattle.std.proofs.lemmas.List.{map-append}
use Rattle.std.proofs.lemmas.Result.{err_from_is_err_and}
use Rattle.sector_disk.proofs.RunLaws.{quiet, quiet_joins}
use Rattle.session_store.specs.Form.{place}
use Rattle.session_store.specs.ReadFaults.{store_fault}
use Rattle.session_store.specs.Stands.{parts_from}
use Rattle.session_store.proofs.PartsLemmas.{with_parts, parts-none, parts-more, parts-damaged, parts-all}
use Rattle.session_store.proofs.OpeningLemmas.{found-damaged}
use Rattle.session_store.proofs.parts.read_parts.Goals as goal

pub loop-i-init : goal.loop-i-init
loop-i-init g c =
    let left : c.args.header.parts - 0 ≡ c.args.header.parts = omega arith in
    record {
      quiet = quiet g.D.SectorDisk.disk _;
      no_fault = refl;
      room = c.requires.room;
      count = rw c.requires.empty refl;
      read = λ honest. rw (c.requires.empty, left) (parts-none _);
    }

pub returns-in_err-part-clause-fault : goal.returns-in_err-part-clause-fault
returns-in_err-part-clause-fault g c =
    let disk = g.D.SectorDisk.disk in
    let p = err_from_is_err_and c.from_residual.result c.from_residual.ensures.1 in
    rw (p.1, p.2) (elim c.in_err-part.ensures.fault [
      | inl failed ↦ inl (ap store_fault failed.0, omega (arith, failed.1, c.loop-i.invariant.no_fault))
      | inr damaged ↦
          found-damaged _ _ _ _ (damaged.1 ∙ c.loop-i.invariant.no_fault) _ _ (ap store_fault damaged.0)
          (λ honest.
          let reads = (c.loop-i.invariant.quiet.only_read honest).reads (place c.args.header.epoch + 1 + c.loop-i.i) in
          c.loop-i.invariant.read honest
          ∙ parts-damaged c.args.header.format (disk.reads c.args.disk.now) c.args.header.epoch c.loop-i.i c.args.header.parts _ _ c.loop-i-test.true reads
          (damaged.2 (c.loop-i.invariant.quiet.remains.stays_honest honest)))
    ])

pub loop-i-preserved : goal.loop-i-preserved
loop-i-preserved g c =
    let disk = g.D.SectorDisk.disk in
    record {
      quiet = quiet_joins disk _ _ _ c.loop-i.invariant.quiet c.read_part.ensures.quiet;
      no_fault = c.in_ok-part.ensures.no_fault ∙ c.loop-i.invariant.no_fault;
      room = omega (arith, c.loop-i.invariant.room, c.push_reserved.ensures.capacity);
      count = omega arith;
      read = λ honest.
          let reads = (c.loop-i.invariant.quiet.only_read honest).reads (place c.args.header.epoch + 1 + c.loop-i.i) in
          c.loop-i.invariant.read honest
          ∙ parts-more c.args.header.format (disk.reads c.args.disk.now) c.args.header.epoch c.loop-i.i c.args.header.parts _ _ _ c.loop-i-test.true reads
          (c.in_ok-part.ensures.part (c.loop-i.invariant.quiet.remains.stays_honest honest))
          ∙ ap (λ xs. with_parts xs (parts_from c.args.header.format (disk.reads c.args.disk.now) c.args.header.epoch (c.loop-i.i + 1) (c.args.header.parts - (c.loop-i.i + 1)))) (sym (ap (map (λ part. part.items)) c.push_reserved.ensures.items ∙ map-append _ _ _));
    }

pub returns-clause-parts : goal.returns-clause-parts
returns-clause-parts g c = λ honest.
    c.loop-i.invariant.read honest
    ∙ parts-all c.args.header.format (g.D.SectorDisk.disk.reads c.args.disk.now) c.args.header.epoch c.loop-i.i c.args.header.parts _ (omega (arith, c.loop-i-test.false))

pub returns-in_err-part-clause-quiet : goal.returns-in_err-part-clause-quiet
returns-in_err-part-clause-quiet g c =
    quiet_joins g.D.SectorDisk.disk _ _ _ c.loop-i.invariant.quiet c.read_part.ensures.quiet
