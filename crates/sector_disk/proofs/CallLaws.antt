-- What one call of a disk leaves, whether it failed or not.
use Rattle.std.proofs.Common.{◌≡◌, ◌≢◌, ℕ, List, Result, Ok, Err, inl, inr, ◌∙◌}
use Rattle.sector_disk.specs.Disk.{Image, IsSame, Disk}
use Rattle.sector_disk.specs.Calls.{WithOrWithout, Writes, Syncs, IsSynced}
use Rattle.sector_disk.proofs.ImageLaws.{with_sector-same, with_sector-other, same_has}

-- what a sync leaves might have been left before
synced_leaves : {D : Type 0} (disk : Disk D) (old new : D) → disk.honest old → IsSynced disk old new
    → (c : Image) → disk.may_leave new c → disk.may_leave old c
synced_leaves disk old new honest synced c left =
    same_has (disk.may_leave old) c (disk.reads old) (synced.images c left) (disk.reads_left old honest)

module _ {D T E : Type 0} (disk : Disk D) (old new : D) where
  -- what a power cut may leave after a write, whether it failed or not
  pub write_leaves : (i : ℕ) (bytes : List ℕ) (result : Result T E) → Writes disk old new i bytes result
      → (c : Image) → disk.may_leave new c → WithOrWithout (disk.may_leave old) i bytes c
  write_leaves i bytes (Ok _) did c left = did.ok.images c left
  write_leaves i bytes (Err _) did c left =
      elim did.err [ inl written ↦ written.images c left | inr same ↦ inl (same.images c left) ]

  -- a write that answered Ok reads as written
  pub write_here : (i : ℕ) (bytes : List ℕ) (v : T) → Writes {T = T} {E = E} disk old new i bytes (Ok v)
      → disk.reads new i ≡ bytes
  write_here i bytes v did = did.ok.reads i ∙ with_sector-same (disk.reads old) i bytes

  -- a write leaves the other sectors as they were, whether it failed or not
  pub write_elsewhere : (i : ℕ) (bytes : List ℕ) (result : Result T E) → Writes disk old new i bytes result
      → (k : ℕ) → k ≢ i → disk.reads new k ≡ disk.reads old k
  write_elsewhere i bytes (Ok _) did k other = did.ok.reads k ∙ with_sector-other _ _ _ k other
  write_elsewhere i bytes (Err _) did k other =
      elim did.err [ inl written ↦ written.reads k ∙ with_sector-other _ _ _ k other | inr same ↦ same.reads k ]

  -- a sync adds no image, whether it failed or not
  pub sync_leaves : disk.honest old → (result : Result T E) → Syncs disk old new result
      → (c : Image) → disk.may_leave new c → disk.may_leave old c
  sync_leaves honest (Ok _) did c left = synced_leaves disk old new honest did.ok c left
  sync_leaves honest (Err _) did c left =
      elim did.err [ inl synced ↦ synced_leaves disk old new honest synced c left | inr same ↦ same.images c left ]

  -- a sync changes nothing that reads give, whether it failed or not
  pub sync_reads : (result : Result T E) → Syncs disk old new result → IsSame (disk.reads new) (disk.reads old)
  sync_reads (Ok _) did = did.ok.reads
  sync_reads (Err _) did = elim did.err [ inl synced ↦ synced.reads | inr same ↦ same.reads ]
