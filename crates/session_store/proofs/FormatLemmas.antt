-- Formatting: zeros hold nothing, and the first snapshot over them stands for its state.
use Rattle.std.proofs.Common.{◌≡◌, ◌≢◌, ◌<◌, ◌≤◌, ◌+◌, ℕ, List, [], take, zero, suc, inl, inr, replicate, Some, None, Result, Ok, refl, sym, ap, subst, ◌∙◌, arith}
use Rattle.std.proofs.lemmas.Bool.{cases_eq}
use Rattle.sector_disk.specs.Disk.{Image, Disk}
use Rattle.sector_disk.specs.Calls.{Called, Writes, Syncs}
use Rattle.sector_disk.specs.Runs.{EveryMoment}
use Rattle.sector_disk.proofs.ImageLaws.{with_sector-other}
use Rattle.sector_disk.proofs.RunLaws.{writes_on, syncs_on, joins, weakens, now_has}
use Rattle.sector_disk.proofs.CallLaws.{write_here, write_elsewhere}
use Rattle.session_store.specs.Keeping.{Keeping, IsLawful, fold}
use Rattle.session_store.specs.Form.{header_of, place}
use Rattle.session_store.specs.declared.disk_format.DiskFormat.TheVariants.{Two}
use Rattle.session_store.specs.declared.reading.Header.{Header}
use Rattle.session_store.specs.Stands.{placed, header_at, IsLater, recovered, IsInOrder}
use Rattle.session_store.specs.Base.{HasEpoch, HasFormat, IsSettled}
use Rattle.session_store.specs.Snapshot.{ButForParts, NothingLater, WithSnapshot, IsSnapshotting, SameBehind, header_sector}
use Rattle.session_store.specs.Sound.{IsSoundDisk, StandsOnlyFor}
use Rattle.session_store.proofs.FormLemmas.{header_of-zeros, zeros_not_later}
use Rattle.session_store.proofs.StandsLemmas.{fold-nil}
use Rattle.session_store.proofs.BaseLemmas.{settled-stands}
use Rattle.session_store.proofs.SnapshotLemmas.{with_snapshot-settled, with_snapshot-format}

place-low : (epoch : ℕ) → place epoch ≤ 512
unfolding place
place-low epoch = omega arith

no_header : (at : ℕ) (bytes : List ℕ) (h : Header) → bytes ≡ replicate 512 0 → header_at at bytes ≡ Some h → h.epoch ≤ 0
unfolding placed
no_header at bytes h zeros is =
    let none : None ≡ Some h = sym (ap (placed at) (ap header_of zeros ∙ header_of-zeros)) ∙ is in absurd (cc)

-- an image of zeros holds no header and no record
pub zeros-nothing_later : (image : Image) → ((k : ℕ) → k < 2048 → image k ≡ replicate 512 0) → NothingLater 0 image
zeros-nothing_later image zeros = record {
  first = λ h is. no_header 0 (image 0) h (zeros 0 (omega arith)) is;
  second = λ h is. no_header 512 (image 512) h (zeros 512 (omega arith)) is;
  none_later = λ k above below later. zeros_not_later 0 (subst (λ (bytes : List ℕ). IsLater 0 bytes) (zeros k below) later);
}

module _ {S A R : Type 0} (kept : Keeping S A R) where
  -- an image with no action pending stands for its base
  pub settled-only : (epoch n : ℕ) (s : S) (image : Image) → n ≤ 1024 → IsSettled kept epoch s n [] image
      → (recovered kept image ≡ Ok s) × IsInOrder image
  unfolding fold
  settled-only epoch n s image within settled =
      let stands = settled-stands kept epoch n s s [] image (omega arith) (fold-nil kept s) settled in
      let same : Some s ≡ Some stands.state = of_take stands.count stands.state stands.made in
      let is : s ≡ stands.state = cc in
      (stands.stands ∙ ap (λ (t : S). Ok t) (sym is), stands.in_order)
    where
      of_take : (count : ℕ) (t : S) → fold kept s (take count []) ≡ Some t → Some s ≡ Some t
      of_take zero t made = made
      of_take (suc n) t made = made

  -- the first snapshot over zeros is settled in epoch 1
  pub first_settled : {D : Type 0} (disk : Disk D) → IsLawful kept → (old new : D) (s : S) → kept.IsState s
      → ((c : Image) → disk.may_leave old c → (k : ℕ) → k < 2048 → c k ≡ replicate 512 0)
      → ((c : Image) → disk.may_leave new c → WithSnapshot kept (disk.may_leave old) 1 s c)
      → (c : Image) → disk.may_leave new c → IsSettled kept 1 s 0 [] c
  first_settled disk lawful old new s is_state zeros written c left =
      with_snapshot-settled kept lawful (disk.may_leave old) 0 1 s c refl (omega arith) is_state
      (λ d before. zeros-nothing_later d (zeros d before)) (written c left)

  -- its header is of the second format
  pub first_format : {D : Type 0} (disk : Disk D) → IsLawful kept → (old new : D) (s : S) → kept.IsState s
      → ((c : Image) → disk.may_leave old c → (k : ℕ) → k < 2048 → c k ≡ replicate 512 0)
      → ((c : Image) → disk.may_leave new c → WithSnapshot kept (disk.may_leave old) 1 s c)
      → (c : Image) → disk.may_leave new c → HasFormat Two c
  first_format disk lawful old new s is_state zeros written c left =
      with_snapshot-format kept lawful (disk.may_leave old) 0 1 s c refl (omega arith) is_state
      (λ d before g is. no_header (place 0) (d (place 0)) g (zeros d before (place 0) (omega (arith, place-low 0))) is) (written c left)

  -- and of epoch 1
  pub settled-epoch : (epoch n : ℕ) (s : S) (image : Image) → IsSettled kept epoch s n [] image → HasEpoch epoch image
  settled-epoch epoch n s image settled = settled.is_base.header image (λ k below spare. refl)

  pub first_snapshot : {D : Type 0} (disk : Disk D) → IsLawful kept → (old new : D) (s : S) → kept.IsState s → disk.honest new
      → 2048 ≤ disk.count new
      → ((c : Image) → disk.may_leave old c → (k : ℕ) → k < 2048 → c k ≡ replicate 512 0)
      → ((c : Image) → disk.may_leave new c → WithSnapshot kept (disk.may_leave old) 1 s c)
      → IsSoundDisk kept disk new × StandsOnlyFor kept disk s new
  first_snapshot disk lawful old new s is_state honest large zeros written =
      let settled = first_settled disk lawful old new s is_state zeros written in (
        record {
          honest = honest;
          large = large;
          stands = λ c left. (s, (settled-only 1 0 s c (omega arith) (settled c left)).0);
          in_order = λ c left. (settled-only 1 0 s c (omega arith) (settled c left)).1;
        },
        λ c left. (settled-only 1 0 s c (omega arith) (settled c left)).0,
      )

module _ {D : Type 0} (disk : Disk D) where
  -- a write of a sector that a store uses leaves those behind alone
  pub behind_write : {T E : Type 0} (old mid new : D) (i : ℕ) (bytes : List ℕ) (result : Result T E) → i < 2048
      → EveryMoment disk old mid (SameBehind (disk.may_leave old)) → Called disk mid new result
      → (disk.honest mid → Writes disk mid new i bytes result) → EveryMoment disk old new (SameBehind (disk.may_leave old))
  behind_write old mid new i bytes result used run called writes =
      writes_on disk old mid new (SameBehind (disk.may_leave old)) result run called i bytes (writes run.honest)
      (λ c left from. (
        from.0,
        from.1,
        λ k above.
            let other : k ≢ i = λ here. omega (arith, here, above, used) in
            with_sector-other c i bytes k other ∙ from.2 k above,
      ))

  -- and so does a sync
  pub behind_sync : {T E : Type 0} (old mid new : D) (result : Result T E)
      → EveryMoment disk old mid (SameBehind (disk.may_leave old)) → Called disk mid new result
      → (disk.honest mid → Syncs disk mid new result) → EveryMoment disk old new (SameBehind (disk.may_leave old))
  behind_sync old mid new result run called syncs =
      syncs_on disk old mid new (SameBehind (disk.may_leave old)) result run called (syncs run.honest)

  -- and the writing of a snapshot
  pub behind_snapshot : {S A R : Type 0} (kept : Keeping S A R) (old mid new : D) (epoch : ℕ) (s : S)
      → EveryMoment disk old mid (SameBehind (disk.may_leave old))
      → EveryMoment disk mid new (IsSnapshotting kept (disk.may_leave mid) epoch s)
      → EveryMoment disk old new (SameBehind (disk.may_leave old))
  behind_snapshot kept old mid new epoch s run snapshot =
      joins disk old mid new (SameBehind (disk.may_leave old)) run
      (weakens disk mid new (IsSnapshotting kept (disk.may_leave mid) epoch s) snapshot (SameBehind (disk.may_leave old)) behind)
    where
      parts : (c : Image) → ButForParts (disk.may_leave mid) epoch c → SameBehind (disk.may_leave old) c
      parts c from =
          let before = now_has disk old mid (SameBehind (disk.may_leave old)) run from.0 from.1 in (
            before.0,
            before.1,
            λ k above. from.2 k (λ inside. omega (arith, inside.1, above, place-low epoch)) ∙ before.2 k above,
          )

      behind : (c : Image) → IsSnapshotting kept (disk.may_leave mid) epoch s c → SameBehind (disk.may_leave old) c
      behind c (inl from) = parts c from
      behind c (inr headed) =
          let before = parts headed.0 headed.1 in (
            before.0,
            before.1,
            λ k above.
                let other : k ≢ place epoch = λ here. omega (arith, here, above, place-low epoch) in
                ap (λ (image : Image). image k) headed.3 ∙ with_sector-other headed.0 (place epoch) (header_sector kept epoch s) k other
                ∙ before.2 k above,
          )

-- one sector more is cleared
pub cleared_more : {D T E : Type 0} (disk : Disk D) (mid new : D) (i : ℕ) (v : T) → Writes {T = T} {E = E} disk mid new i (replicate 512 0) (Ok v)
    → ((k : ℕ) → k < i → disk.reads mid k ≡ replicate 512 0) → (k : ℕ) → k < i + 1 → disk.reads new k ≡ replicate 512 0
cleared_more disk mid new i v did before k below =
    elim (cases_eq k i) [
      | inl here ↦ subst (λ (n : ℕ). disk.reads new n ≡ replicate 512 0) (sym here) (write_here disk mid new i (replicate 512 0) v did)
      | inr other ↦ write_elsewhere disk mid new i (replicate 512 0) (Ok v) did k other ∙ before k (omega (arith, below, other))
    ]
