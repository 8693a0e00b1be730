-- What is seen on a disk under one of its headers.
use Rattle.std.proofs.Common.{◌≡◌, ◌<◌, ◌+◌, ℕ, Option, Some, None, Result, Err, nat_lt, inl, inr, refl, sym, ap, subst, ◌∙◌, arith}
use Rattle.std.specs.Prelude.{IfSome}
use Rattle.std.proofs.lemmas.Bool.{cases_Bool, cases_lt, cond-true, cond-false}
use Rattle.sector_disk.specs.Disk.{Image, Disk}
use Rattle.sector_disk.specs.Runs.{Quiet}
use Rattle.sector_disk.proofs.ImageLaws.{image_is}
use Rattle.session_store.specs.Keeping.{Keeping}
use Rattle.session_store.specs.declared.disk_format.DiskFormat.{DiskFormat}
use Rattle.session_store.specs.declared.reading.Header.{Header}
use Rattle.session_store.specs.declared.fault.StoreFault.{StoreFault}
use Rattle.session_store.specs.declared.fault.StoreFault.TheVariants.{NotFormatted}
use Rattle.session_store.specs.Stands.{header_in, newer, parts_from, after_parts, after_header, recovered}
use Rattle.session_store.specs.Looking.{older, HoldsRecord, CountsRecords, IsSeen, IsUnseen}
use Rattle.session_store.proofs.OpeningLemmas.{cause-from}

-- what both headers have, the newer has
pub newer-has : (P : Header → Type 0) (a b : Option Header) → IfSome a P → IfSome b P → IfSome (newer a b) P
unfolding newer
newer-has P None b first second = second
newer-has P (Some a) None first second = first
newer-has P (Some a) (Some b) first second = let test = nat_lt a.epoch b.epoch in
    elim (cases_Bool test) [
      | inl less ↦ subst (λ (o : Option Header). IfSome o P) (sym (cond-true test (Some b) (Some a) less)) second
      | inr more ↦ subst (λ (o : Option Header). IfSome o P) (sym (cond-false test (Some b) (Some a) more)) first
    ]

-- and so has the older
pub older-has : (P : Header → Type 0) (a b : Option Header) → IfSome a P → IfSome b P → IfSome (older a b) P
unfolding older
older-has P None b first second = tt
older-has P (Some a) None first second = tt
older-has P (Some a) (Some b) first second = let test = nat_lt a.epoch b.epoch in
    elim (cases_Bool test) [
      | inl less ↦ subst (λ (o : Option Header). IfSome o P) (sym (cond-true test (Some a) (Some b) less)) first
      | inr more ↦ subst (λ (o : Option Header). IfSome o P) (sym (cond-false test (Some a) (Some b) more)) second
    ]

module _ {S A R : Type 0} (kept : Keeping S A R) (image : Image) where
  -- nothing stands under no header
  pub after-none : (o : Option Header) → o ≡ None → after_header kept image o ≡ Err NotFormatted
  unfolding after_header
  after-none o is = rw is refl

  -- under a header stand its parts and what follows them
  pub after-some : (o : Option Header) (h : Header) → o ≡ Some h
      → after_header kept image o ≡ after_parts kept image h (parts_from h.format image h.epoch 0 h.parts)
  unfolding after_header
  after-some o h is = rw is refl

  -- the image stands for what stands under the header that counts
  pub after-recovered : (found : Result S StoreFault) → after_header kept image (header_in image) ≡ found → recovered kept image ≡ found
  unfolding recovered
  after-recovered found is = is

  -- one record more is held
  pub holds-more : (format : DiskFormat) (epoch count : ℕ) → ((k : ℕ) → k < count → HoldsRecord kept format image epoch k)
      → HoldsRecord kept format image epoch count → (k : ℕ) → k < count + 1 → HoldsRecord kept format image epoch k
  holds-more format epoch count before last k below = elim (cases_lt k count) [
    | inl less ↦ before k less
    | inr more ↦ let same : count ≡ k = omega (arith, below, more) in subst (λ (n : ℕ). HoldsRecord kept format image epoch n) same last
  ]

module _ {D S A R : Type 0} (kept : Keeping S A R) (disk : Disk D) (header : Image → Option Header) (old mid new : D)
    (found : Option Header) (quiet : Quiet disk old mid) (no_fault : disk.faults mid ≡ disk.faults old)
    (is : disk.honest old → found ≡ header (disk.reads old)) where
  -- reading a header changes nothing of what stands under it
  under : disk.honest old
      → after_header kept (disk.reads old) (header (disk.reads old)) ≡ after_header kept (disk.reads mid) found
  under honest =
      ap (after_header kept (disk.reads old)) (sym (is honest))
      ∙ ap (λ image. after_header kept image found) (sym (image_is _ _ (quiet.only_read honest).reads))

  -- what was seen under the header that was found was seen under the disk's
  pub seen-under : (state : S) (format : DiskFormat) (epoch sector records : ℕ)
      → IsSeen kept disk (λ _. found) mid new state format epoch sector records
      → IsSeen kept disk header old new state format epoch sector records
  seen-under state format epoch sector records seen = record {
    no_fault = seen.no_fault ∙ no_fault;
    state_of = λ honest. under honest ∙ seen.state_of (quiet.remains.stays_honest honest);
    stated = λ honest.
        let stated = seen.stated (quiet.remains.stays_honest honest) in
        (stated.0, sym (is honest) ∙ stated.1, stated.2, stated.3);
    stands_at = seen.stands_at;
    counted = λ honest.
        subst (λ (image : Image). CountsRecords kept format image epoch records) (image_is _ _ (quiet.only_read honest).reads)
        (seen.counted (quiet.remains.stays_honest honest));
  }

  -- and why nothing was seen
  pub unseen-under : (fault : StoreFault) → IsUnseen kept disk (λ _. found) mid new fault → IsUnseen kept disk header old new fault
  unseen-under fault unseen = record {
    cause = cause-from _ _ _ _ _ _ _ _ quiet.remains.stays_honest no_fault (λ honest found_so. under honest ∙ found_so) unseen.cause;
    memory = λ same honest. let some = unseen.memory same (quiet.remains.stays_honest honest) in (some.0, sym (is honest) ∙ some.1);
  }
