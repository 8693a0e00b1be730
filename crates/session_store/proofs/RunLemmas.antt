-- Runs of calls that write a snapshot.
use Rattle.std.proofs.Common.{◌≡◌, ◌≢◌, ◌<◌, ◌+◌, ℕ, List, [], get_or, Result, Ok, inl, inr, ⊎_elim, sym, subst, ◌∙◌, arith}
use Rattle.std.proofs.lemmas.Bool.{cases_eq}
use Rattle.sector_disk.specs.Disk.{Image, with_sector, Disk}
use Rattle.sector_disk.proofs.ImageLaws.{with_sector-other, image_is}
use Rattle.sector_disk.specs.Calls.{Syncs, WriteCall}
use Rattle.sector_disk.proofs.CallLaws.{write_here, write_elsewhere}
use Rattle.sector_disk.specs.Runs.{EveryMoment}
use Rattle.sector_disk.proofs.RunLaws.{writes_on, goes_on, weakens, now_has, write_is}
use Rattle.session_store.specs.Keeping.{Keeping}
use Rattle.session_store.specs.declared.disk_format.DiskFormat.TheVariants.{Two}
use Rattle.session_store.specs.Form.{place, sector, part_mark}
use Rattle.session_store.specs.Snapshot.{ButForParts, HasParts, header_sector, WithSnapshot, IsSnapshotting}

-- images but for parts stay such over a write of a part
pub but_for_part : (images : Image → Type 0) (epoch i : ℕ) (c : Image) (bytes : List ℕ) → i < 494
    → ButForParts images epoch c → ButForParts images epoch (with_sector c (place epoch + 1 + i) bytes)
but_for_part images epoch i c bytes few from = (
  from.0,
  from.1,
  λ k used.
      let other : k ≢ place epoch + 1 + i = λ here. used (omega (arith, here, few), omega (arith, here, few)) in
      with_sector-other c (place epoch + 1 + i) bytes k other ∙ from.2 k used,
)

module _ {D T E : Type 0} (disk : Disk D) (images : Image → Type 0) (epoch : ℕ) where
  -- a run goes on over the write of a part
  pub part_on : (old mid new : D) (i : ℕ) (bytes : List ℕ) (result : Result T E) → i < 494
      → EveryMoment disk old mid (ButForParts images epoch)
      → WriteCall disk mid new (place epoch + 1 + i) bytes result → EveryMoment disk old new (ButForParts images epoch)
  part_on old mid new i bytes result few so_far call =
      writes_on disk old mid new (ButForParts images epoch) result so_far call.called (place epoch + 1 + i) bytes
      (call.writes so_far.honest) (λ c left from. but_for_part images epoch i c bytes few from)

  -- and the part is there with those before it
  pub part_there : (mid new : D) (i : ℕ) (parts : List (List ℕ)) (v : T)
      → disk.honest mid → WriteCall {T = T} {E = E} disk mid new (place epoch + 1 + i) (sector (part_mark Two) epoch i (get_or parts i [])) (Ok v)
      → ((k : ℕ) → k < i → disk.reads mid (place epoch + 1 + k) ≡ sector (part_mark Two) epoch k (get_or parts k []))
      → (k : ℕ) → k < i + 1 → disk.reads new (place epoch + 1 + k) ≡ sector (part_mark Two) epoch k (get_or parts k [])
  part_there mid new i parts v honest call before k below =
      let at = place epoch + 1 + i in
      let did = call.writes honest in
      elim (cases_eq k i) [
        | inl here ↦
            subst (λ (n : ℕ). disk.reads new (place epoch + 1 + n) ≡ sector (part_mark Two) epoch n (get_or parts n [])) (sym here)
            (write_here disk mid new at (sector (part_mark Two) epoch i (get_or parts i [])) v did)
        | inr other ↦
            let away : place epoch + 1 + k ≢ at = λ same. other (omega (arith, same)) in
            write_elsewhere disk mid new at (sector (part_mark Two) epoch i (get_or parts i [])) (Ok v) did (place epoch + 1 + k) away
            ∙ before k (omega (arith, below, other))
      ]

module _ {D S A R : Type 0} (disk : Disk D) (kept : Keeping S A R) (images : Image → Type 0) (epoch : ℕ) (s : S) where
  -- a run that leaves images but for parts is one of writing a snapshot
  pub before_header : (old new : D) → EveryMoment disk old new (ButForParts images epoch)
      → EveryMoment disk old new (IsSnapshotting kept images epoch s)
  before_header old new run = weakens disk old new (ButForParts images epoch) run (IsSnapshotting kept images epoch s) (λ c from. inl from)

  -- after a sync all parts are there
  pub parts_synced : {T E : Type 0} (old new : D) (v : T) → disk.honest old → HasParts kept epoch s (disk.reads old)
      → (disk.honest old → Syncs {T = T} {E = E} disk old new (Ok v))
      → (c : Image) → disk.may_leave new c → HasParts kept epoch s c
  parts_synced old new v honest there did c left i below =
      (did honest).ok.images c left (place epoch + 1 + i) ∙ there i below

  -- a run goes on over the write of the header
  pub header_on : {T E : Type 0} (old mid new : D) (result : Result T E) → EveryMoment disk old mid (ButForParts images epoch)
      → ((c : Image) → disk.may_leave mid c → HasParts kept epoch s c)
      → WriteCall disk mid new (place epoch) (header_sector kept epoch s) result
      → EveryMoment disk old new (IsSnapshotting kept images epoch s)
  header_on old mid new result run there call =
      goes_on disk old mid new (IsSnapshotting kept images epoch s) result (before_header old mid run) call.called
      (λ c left. ⊎_elim (λ was. inl (now_has disk old mid (ButForParts images epoch) run c was))
      (λ d. inr (d.0, now_has disk old mid (ButForParts images epoch) run d.0 d.1, there d.0 d.1, d.2))
      (write_is disk mid new (place epoch) (header_sector kept epoch s) result (call.writes run.honest) c left))

  -- and once it is synced, every image has the snapshot
  pub header_synced : {T E U F : Type 0} (old mid new end : D) (v : T) (w : U) → EveryMoment disk old mid (ButForParts images epoch)
      → ((c : Image) → disk.may_leave mid c → HasParts kept epoch s c)
      → WriteCall {T = T} {E = E} disk mid new (place epoch) (header_sector kept epoch s) (Ok v)
      → (disk.honest new → Syncs {T = U} {E = F} disk new end (Ok w)) → (c : Image) → disk.may_leave end c → WithSnapshot kept images epoch s c
  header_synced old mid new end v w run there call synced c left =
      let honest = call.called.stays_honest run.honest in
      let before = disk.reads mid in
      let might = disk.reads_left mid run.honest in
      let same : c ≡ with_sector before (place epoch) (header_sector kept epoch s)
      = image_is c _ (λ k. (synced honest).ok.images c left k ∙ (call.writes run.honest).ok.reads k) in
      (before, now_has disk old mid (ButForParts images epoch) run before might, there before might, same)
