use Rattle.std.proofs.Common.{◌≡◌, ◌*◌, ◌<◌, ℕ, max, replicate}
use Rattle.sector_disk.proofs.file.write_zeros.Given as goal

abbrev pub invariant-loop-i : goal.invariant-loop-i
invariant-loop-i g l = let blocks = g.F.BlockFile.blocks in record {
  stays_honest : blocks.honest l.fn.file → blocks.honest l.file;
  was_honest : blocks.honest l.file → blocks.honest l.fn.file;
  zeros : blocks.honest l.fn.file → (k : ℕ) → k < l.i → blocks.reads l.file k ≡ replicate 512 0;
  length : blocks.honest l.fn.file → blocks.length l.file ≡ max (blocks.length l.fn.file) (512 * l.i);
}
