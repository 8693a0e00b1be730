-- Records taken one after another.
use Rattle.std.proofs.Common.{◌≡◌, ◌<◌, ◌≤◌, ◌+◌, ◌-◌, ℕ, suc, List, Ok, Err, refl, sym, ap, ◌∙◌, arith}
use Rattle.sector_disk.specs.Disk.{Image}
use Rattle.session_store.specs.Keeping.{Keeping}
use Rattle.session_store.specs.Form.{entry_in}
use Rattle.session_store.specs.declared.disk_format.DiskFormat.{DiskFormat}
use Rattle.session_store.specs.declared.reading.Entry.TheVariants.{Missing, Damaged as DamagedEntry, Holds}
use Rattle.session_store.specs.declared.fault.StoreFault.TheVariants.{Damaged}
use Rattle.session_store.specs.Stands.{after_step, after_entry, replay}
use Rattle.session_store.proofs.StandsLemmas.{replay-missing, replay-holds}

module _ {S A R : Type 0} (kept : Keeping S A R) (format : DiskFormat) (image : Image) (epoch k : ℕ) (s : S) (bytes : List ℕ) (same : bytes ≡ image (1024 + k)) where
  pub record-missing : Missing ≡ entry_in kept format epoch k bytes → replay kept format (1024 - k) image epoch k s ≡ Ok s
  record-missing missing = replay-missing kept format image (1024 - k) epoch k s (λ some. ap (entry_in kept format epoch k) (sym same) ∙ sym missing)

  pub record-damaged : k < 1024 → DamagedEntry ≡ entry_in kept format epoch k bytes → replay kept format (1024 - k) image epoch k s ≡ Err (Damaged (1024 + k))
  unfolding replay after_entry
  record-damaged within damaged =
      let left : 1024 - k ≡ suc (1024 - (k + 1)) = omega arith in
      let here : entry_in kept format epoch k (image (1024 + k)) ≡ DamagedEntry = ap (entry_in kept format epoch k) (sym same) ∙ sym damaged in
      ap (λ (m : ℕ). replay kept format m image epoch k s) left ∙ rw here refl

  pub record-refused : k < 1024 → (a : A) → Holds a ≡ entry_in kept format epoch k bytes → (refusal : R) → kept.step s a ≡ Err refusal
      → replay kept format (1024 - k) image epoch k s ≡ Err (Damaged (1024 + k))
  unfolding replay after_entry after_step
  record-refused within a holds refusal refused =
      let left : 1024 - k ≡ suc (1024 - (k + 1)) = omega arith in
      let here : entry_in kept format epoch k (image (1024 + k)) ≡ Holds a = ap (entry_in kept format epoch k) (sym same) ∙ sym holds in
      ap (λ (m : ℕ). replay kept format m image epoch k s) left ∙ rw (here, refused) refl

  pub record-taken : k < 1024 → (a : A) → Holds a ≡ entry_in kept format epoch k bytes → (t : S) → kept.step s a ≡ Ok t
      → replay kept format (1024 - k) image epoch k s ≡ replay kept format (1024 - (k + 1)) image epoch (k + 1) t
  record-taken within a holds t accepted =
      let left : 1024 - k ≡ suc (1024 - (k + 1)) = omega arith in
      ap (λ (m : ℕ). replay kept format m image epoch k s) left
      ∙ replay-holds kept format image (1024 - (k + 1)) epoch k s t a (ap (entry_in kept format epoch k) (sym same) ∙ sym holds) accepted

-- the journal is full
pub records-end : {S A R : Type 0} (kept : Keeping S A R) (format : DiskFormat) (image : Image) (epoch k : ℕ) (s : S) → 1024 ≤ k
    → replay kept format (1024 - k) image epoch k s ≡ Ok s
unfolding replay
records-end kept format image epoch k s past =
    let none : 1024 - k ≡ 0 = omega arith in ap (λ (m : ℕ). replay kept format m image epoch k s) none
