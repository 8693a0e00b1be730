use Rattle.std.proofs.Common.{arith}
use Rattle.sector_disk.proofs.BlockLaws.{zeros_more}
use Rattle.sector_disk.proofs.file.write_zeros.Goals as goal

pub loop-i-preserved : goal.loop-i-preserved
loop-i-preserved g c =
    let so_far = c.loop-i.invariant in
    let keeps = c.write_block.ensures.keeps in
    let did = c.in_ok-write_block.ensures in record {
      stays_honest = λ honest. keeps.stays_honest (so_far.stays_honest honest);
      was_honest = λ honest. so_far.was_honest (keeps.was_honest honest);
      zeros = λ honest.
          zeros_more g.F.BlockFile.blocks _ _ _ c.loop-i.i _ (omega (arith, c.place.ensures))
          (did.writes (so_far.stays_honest honest)) (so_far.zeros honest);
      length = λ honest. omega (arith, c.place.ensures, did.length (so_far.stays_honest honest), so_far.length honest);
    }
