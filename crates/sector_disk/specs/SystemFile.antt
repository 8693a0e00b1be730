-- What a file of the system means, which no contract can tell.
use Rattle.std.specs.Prelude.{[]}
use Rattle.sector_disk.specs.Blocks.{Blocks}
use Rattle.sector_disk.specs.declared.system_file.SystemFile.{SystemFile}

-- the runtime's file
abbrev pub file_in : {F : Type 0} → SystemFile F → F
file_in s = s.file

-- Whether it is honest, how long it is, what reads give, what power cuts leave. No proof elsewhere can unfold this.
pub system_blocks : {F : Type 0} → Blocks (SystemFile F)
system_blocks = record {
  honest = λ f. ⊥;
  length = λ f. 0;
  reads = λ f k. [];
  may_leave = λ f c. ⊥;
  moment = λ f. 0;
  left_since = λ f t c. ⊥;
  reads_left = λ f honest. honest;
  counts_now = λ f t c honest le left. left;
  only_now = λ f c honest left. left;
}

-- For the file's own four calls, and for no other proof. A call of the system promises nothing from which a call of an
-- honest file could be proved, so inside no file is honest, and by this lemma another proof could refute the honesty of
-- every file. It stands here and in src/system_file.rt; the repository's gate refuses it elsewhere.
pub no_system_file_is_honest : {F : Type 0} (f : SystemFile F) → system_blocks.honest f → ⊥
unfolding system_blocks
no_system_file_is_honest f honest = honest
