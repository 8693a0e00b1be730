-- What opening a disk reads, and why it fails.
use Rattle.std.proofs.Common.{◌≡◌, ◌⊎◌, ◌-◌, ◌^◌, ℕ, List, Option, Some, None, Result, Ok, Err, inl, inr, refl, sym, ap, subst, ◌∙◌}
use Rattle.std.proofs.lemmas.Bool.{cond-true, cond-false, eq-eqb, ne_eqb, cases_eq}
use Rattle.sector_disk.specs.Disk.{Image, Rose}
use Rattle.session_store.specs.Keeping.{Keeping}
use Rattle.session_store.specs.Form.{place}
use Rattle.session_store.specs.declared.reading.Header.{Header}
use Rattle.session_store.specs.declared.fault.StoreFault.{StoreFault}
use Rattle.session_store.specs.declared.fault.StoreFault.TheVariants.{Disk as DiskFailed, Damaged, NotFormatted, EpochsSpent, NoMemory}
use Rattle.session_store.specs.Stands.{header_in, after_state, after_parts, after_header, recovered, replay, parts_from}
use Rattle.session_store.specs.Opening.{IsCause, HasNext, reading_from, reading}

-- the cause of a call is one of the call around it
pub cause-from : {X Y : Type 0} (inner outer : Type 0) (mid before now : ℕ) (found : Result X StoreFault) (all : Result Y StoreFault)
    (fault : StoreFault) → (outer → inner) → mid ≡ before → (outer → found ≡ Err fault → all ≡ Err fault)
    → IsCause inner mid now found fault → IsCause outer before now all fault
cause-from inner outer mid before now found all fault honest same so (inl failed) =
    inl (failed.0, subst (λ (n : ℕ). Rose n now) same failed.1)
cause-from inner outer mid before now found all fault honest same so (inr (none_rose, inl none)) = inr (none_rose ∙ same, inl none)
cause-from inner outer mid before now found all fault honest same so (inr (none_rose, inr is)) =
    inr (none_rose ∙ same, inr (is.0, is.1, λ holds. so holds (is.2 (honest holds))))

-- a fault of the disk is not that memory was refused
pub disk-not_memory : {P : Type 0} → DiskFailed ≡ NoMemory → P
disk-not_memory same = cc

-- nor is what was found on it
pub not_memory : {P : Type 0} → NotFormatted ≡ NoMemory → P
not_memory same = cc

pub spent_not_memory : {P : Type 0} → EpochsSpent ≡ NoMemory → P
spent_not_memory same = cc

-- what is found is neither a fault of the disk nor of its size
module _ {X : Type 0} (honest : Type 0) (before now : ℕ) (found : Result X StoreFault) (no_fault : now ≡ before) where
  pub found-not_formatted : (honest → found ≡ Err NotFormatted) → IsCause honest before now found NotFormatted
  found-not_formatted is = inr (no_fault, inr (λ same. cc, λ same. cc, is))

  pub found-spent : (honest → found ≡ Err EpochsSpent) → IsCause honest before now found EpochsSpent
  found-spent is = inr (no_fault, inr (λ same. cc, λ same. cc, is))

  pub found-damaged : (at : ℕ) (fault : StoreFault) → fault ≡ Damaged at → (honest → found ≡ Err (Damaged at))
      → IsCause honest before now found fault
  found-damaged at fault same is =
      inr (no_fault, inr (λ other. cc, λ other. cc, λ holds. is holds ∙ ap (λ it. Err it) (sym same)))

module _ {S A R : Type 0} (kept : Keeping S A R) (image : Image) (h : Header) where
  pub after_parts-err : (parts : Result (List (List ℕ)) StoreFault) (fault : StoreFault) → parts ≡ Err fault
      → after_parts kept image h parts ≡ Err fault
  unfolding after_parts
  after_parts-err parts fault is = rw is refl

  pub after_parts-bad : (parts : Result (List (List ℕ)) StoreFault) (payloads : List (List ℕ)) → parts ≡ Ok payloads
      → kept.state_of h.format payloads ≡ None → after_parts kept image h parts ≡ Err (Damaged (place h.epoch))
  unfolding after_parts after_state
  after_parts-bad parts payloads is none = rw (is, none) refl

  pub after_parts-ok : (parts : Result (List (List ℕ)) StoreFault) (payloads : List (List ℕ)) (s : S) → parts ≡ Ok payloads
      → kept.state_of h.format payloads ≡ Some s → after_parts kept image h parts ≡ replay kept h.format 1024 image h.epoch 0 s
  unfolding after_parts after_state
  after_parts-ok parts payloads s is some = rw (is, some) refl

module _ {S A R : Type 0} (kept : Keeping S A R) (image : Image) where
  pub reading-none : None ≡ header_in image → reading kept image ≡ Err NotFormatted
  unfolding reading reading_from
  reading-none none = rw (← none) refl

  pub reading-spent : (h : Header) → Some h ≡ header_in image → h.epoch ≡ 2 ^ 64 - 1 → reading kept image ≡ Err EpochsSpent
  unfolding reading reading_from
  reading-spent h some last = rw (← some) (cond-true _ _ _ (eq-eqb h.epoch (2 ^ 64 - 1) last))

  pub reading-some : (h : Header) → Some h ≡ header_in image → (h.epoch ≡ 2 ^ 64 - 1 → ⊥)
      → (reading kept image ≡ recovered kept image)
      × (recovered kept image ≡ after_parts kept image h (parts_from h.format image h.epoch 0 h.parts))
  unfolding reading reading_from recovered after_header
  reading-some h some more = (
    (let head : reading_from kept image (header_in image) ≡ reading_from kept image (Some h) = ap (reading_from kept image) (sym some) in
        head ∙ cond-false _ _ _ (ne_eqb h.epoch (2 ^ 64 - 1) more)),
    rw (← some) refl,
  )

  reading-not_formatted : None ≡ header_in image → recovered kept image ≡ Err NotFormatted
  unfolding recovered after_header
  reading-not_formatted none = rw (← none) refl

  -- an image that stands for a state is opened, unless the epochs are spent
  reading-stands : (s : S) (fault : StoreFault) → recovered kept image ≡ Ok s → reading kept image ≡ Err fault → fault ≡ EpochsSpent
  reading-stands s fault stands is = of_header (header_in image) refl
    where
      of_header : (o : Option Header) → o ≡ header_in image → fault ≡ EpochsSpent
      of_header None none = let never : Err NotFormatted ≡ Ok s = sym (reading-not_formatted none) ∙ stands in cc
      of_header (Some h) some =
          elim (cases_eq h.epoch (2 ^ 64 - 1)) [
            | inl last ↦ let same : Err EpochsSpent ≡ Err fault = sym (reading-spent h some last) ∙ is in cc
            | inr more ↦ let never : Ok s ≡ Err fault = sym stands ∙ sym (reading-some h some more).0 ∙ is in cc
          ]

  -- so opening it fails from one of three causes
  pub cause-stands : (s : S) (honest : Type 0) (before now : ℕ) (fault : StoreFault) → honest → recovered kept image ≡ Ok s
      → IsCause honest before now (reading kept image) fault
      → (fault ≡ DiskFailed) ⊎ ((fault ≡ EpochsSpent) ⊎ (fault ≡ NoMemory))
  cause-stands s honest before now fault holds stands (inl failed) = inl failed.0
  cause-stands s honest before now fault holds stands (inr (none_rose, inl none)) = inr (inr none)
  cause-stands s honest before now fault holds stands (inr (none_rose, inr is)) = inr (inl (reading-stands s fault stands (is.2 holds)))

  -- an image of which a state is read has a header of an epoch before the last
  pub reading-next : (s : S) → reading kept image ≡ Ok s → HasNext image
  reading-next s is = of_header (header_in image) refl
    where
      of_header : (o : Option Header) → header_in image ≡ o → HasNext image
      of_header None none = let never : Err NotFormatted ≡ Ok s = sym (reading-none (sym none)) ∙ is in cc
      of_header (Some h) some = (
        h,
        some,
        λ last.
            let never : Err EpochsSpent ≡ Ok s = sym (reading-spent h (sym some) last) ∙ is in cc,
      )

  -- what is read of an image is what it stands for
  pub reading-ok : (s : S) → reading kept image ≡ Ok s → recovered kept image ≡ Ok s
  reading-ok s is = of_header (header_in image) refl
    where
      of_header : (o : Option Header) → o ≡ header_in image → recovered kept image ≡ Ok s
      of_header None none = let never : Err NotFormatted ≡ Ok s = sym (reading-none none) ∙ is in cc
      of_header (Some h) some =
          elim (cases_eq h.epoch (2 ^ 64 - 1)) [
            | inl last ↦ let never : Err EpochsSpent ≡ Ok s = sym (reading-spent h some last) ∙ is in cc
            | inr more ↦ sym (reading-some h some more).0 ∙ is
          ]
