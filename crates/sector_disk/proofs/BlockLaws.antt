-- Zeros written to the blocks of a file, one after the other.
use Rattle.std.proofs.Common.{◌≡◌, ◌<◌, ◌+◌, ℕ, inl, inr, replicate, Ok, sym, subst, ◌∙◌, arith}
use Rattle.std.proofs.lemmas.Bool.{cases_eq}
use Rattle.sector_disk.specs.Blocks.{Blocks, as_disk}
use Rattle.sector_disk.specs.Calls.{Writes}
use Rattle.sector_disk.proofs.CallLaws.{write_here, write_elsewhere}

-- with zeros in the blocks below one, and then in it, there are zeros below the next
pub zeros_more : {F T E : Type 0} (blocks : Blocks F) (old new : F) (at i : ℕ) (v : T) → at ≡ i
    → Writes {T = T} {E = E} (as_disk blocks) old new at (replicate 512 0) (Ok v)
    → ((k : ℕ) → k < i → blocks.reads old k ≡ replicate 512 0)
    → (k : ℕ) → k < i + 1 → blocks.reads new k ≡ replicate 512 0
zeros_more blocks old new at i v is did before k below = elim (cases_eq k at) [
  | inl same ↦ subst (λ (j : ℕ). blocks.reads new j ≡ replicate 512 0) (sym same)
      (write_here (as_disk blocks) old new at (replicate 512 0) v did)
  | inr other ↦ write_elsewhere (as_disk blocks) old new at (replicate 512 0) (Ok v) did k other
      ∙ before k (omega (arith, below, is, other))
]
