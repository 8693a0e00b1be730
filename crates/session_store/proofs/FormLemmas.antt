-- Sectors read back.
use Rattle.std.proofs.Common.{◌≡◌, ◌⊎◌, ◌<◌, ◌≤◌, ◌+◌, ◌-◌, ◌*◌, ◌%◌, ◌^◌, ◌&&◌, nat_le, inl, inr, ℕ, List, [], ◌∷◌, ◌++◌, length, take, drop, replicate, Option, Some, None, true, false, refl, sym, ap, subst, ◌∙◌, append_assoc, arith, length-append}
use Rattle.std.proofs.Math.Seq.{take-append_seam, drop-append_seam}
use Rattle.std.proofs.lemmas.Nat.{from_be_bytes-to_be_bytes_2, from_be_bytes-to_be_bytes_4, from_be_bytes-to_be_bytes_8}
use Rattle.std.proofs.lemmas.Slice.Eq.{bytes_eq-Decides}
use Rattle.std.proofs.lemmas.Bool.{le-leb, leb-true, and_parts, cases_Bool, cond-true, cond-false}
use Rattle.std.proofs.lemmas.List.{take-append-drop}
use Rattle.std.specs.Int.{w16, w32, w64, to_be_bytes, from_be_bytes}
use Rattle.std.specs.Option.{option_or}
use Rattle.std.specs.Str.{bytes_eq}
use Rattle.session_store.specs.Keeping.{Keeping, IsLawful}
use Rattle.session_store.specs.declared.disk_format.DiskFormat.{DiskFormat}
use Rattle.session_store.specs.declared.disk_format.DiskFormat.TheVariants.{One, Two}
use Rattle.session_store.specs.declared.reading.Header.{Header}
use Rattle.session_store.specs.Form.{label, sector, epoch_field, number_field, payload_field, payload_in, header_mark, record_mark, header_as, header_of, entry_in, record_sector, place}
use Rattle.session_store.specs.Stands.{IsLater}
use Rattle.session_store.specs.declared.reading.Entry.TheVariants.{Missing, Holds}

-- the part before a seam, and the part behind it
pub take_seam : (n : ℕ) (xs ys : List ℕ) → length xs ≡ n → take n (xs ++ ys) ≡ xs
take_seam n xs ys long = subst (λ (k : ℕ). take k (xs ++ ys) ≡ xs) long (take-append_seam xs ys)

pub drop_seam : (n : ℕ) (xs ys : List ℕ) → length xs ≡ n → drop n (xs ++ ys) ≡ ys
drop_seam n xs ys long = subst (λ (k : ℕ). drop k (xs ++ ys) ≡ ys) long (drop-append_seam xs ys)

-- what stands behind the label
rest_of : List ℕ → List ℕ
rest_of payload = to_be_bytes w16 (length payload) ++ (payload ++ replicate (494 - length payload) 0)

pub label_long : (mark : List ℕ) (epoch number : ℕ) → length mark ≡ 4 → length (label mark epoch number) ≡ 16
unfolding label
label_long mark epoch number four =
    simp length-append (omega (arith, four))

module _ (mark : List ℕ) (epoch number : ℕ) (payload : List ℕ) (four : length mark ≡ 4) where
  behind_label : sector mark epoch number payload ≡ label mark epoch number ++ rest_of payload
  unfolding sector rest_of
  behind_label = simp append_assoc

  pub take-sector : take 16 (sector mark epoch number payload) ≡ label mark epoch number
  take-sector = rw behind_label (take_seam 16 (label mark epoch number) (rest_of payload) (label_long mark epoch number four))

  pub epoch_field-sector : epoch < 2 ^ 64 → epoch_field (sector mark epoch number payload) ≡ epoch
  unfolding label epoch_field
  epoch_field-sector small =
      let behind : drop 4 (sector mark epoch number payload) ≡ to_be_bytes w64 epoch ++ (to_be_bytes w32 number ++ rest_of payload)
      = rw (behind_label, append_assoc, append_assoc) (drop_seam 4 mark _ four) in
      ap (λ (bytes : List ℕ). from_be_bytes w64 (take 8 bytes)) behind
      ∙ ap (from_be_bytes w64) (take_seam 8 (to_be_bytes w64 epoch) (to_be_bytes w32 number ++ rest_of payload) refl)
      ∙ from_be_bytes-to_be_bytes_8 epoch small

  pub number_field-sector : number < 2 ^ 32 → number_field (sector mark epoch number payload) ≡ number
  unfolding label number_field
  number_field-sector small =
      let long : length (mark ++ to_be_bytes w64 epoch) ≡ 12 = simp length-append (omega (arith, four)) in
      let behind : drop 12 (sector mark epoch number payload) ≡ to_be_bytes w32 number ++ rest_of payload
      = rw (behind_label, append_assoc) (drop_seam 12 (mark ++ to_be_bytes w64 epoch) _ long) in
      ap (λ (bytes : List ℕ). from_be_bytes w32 (take 4 bytes)) behind
      ∙ ap (from_be_bytes w32) (take_seam 4 (to_be_bytes w32 number) (rest_of payload) refl)
      ∙ from_be_bytes-to_be_bytes_4 number small

  pub payload_field-sector : length payload ≤ 480 → payload_field (sector mark epoch number payload) ≡ payload
  unfolding payload_field rest_of
  payload_field-sector fits =
      let len = to_be_bytes w16 (length payload) in
      let zeros : List ℕ = replicate (494 - length payload) 0 in
      let long = label_long mark epoch number four in
      let at_length : drop 16 (sector mark epoch number payload) ≡ len ++ (payload ++ zeros)
      = rw behind_label (drop_seam 16 (label mark epoch number) (rest_of payload) long) in
      let longer : length (label mark epoch number ++ len) ≡ 18 = simp length-append (omega (arith, long)) in
      let apart : label mark epoch number ++ rest_of payload ≡ (label mark epoch number ++ len) ++ (payload ++ zeros)
      = sym (append_assoc (label mark epoch number) len (payload ++ zeros)) in
      let at_payload : drop 18 (sector mark epoch number payload) ≡ payload ++ zeros
      = rw (behind_label, apart) (drop_seam 18 (label mark epoch number ++ len) (payload ++ zeros) longer) in
      let stated : from_be_bytes w16 (take 2 (drop 16 (sector mark epoch number payload))) ≡ length payload
      = ap (λ (bytes : List ℕ). from_be_bytes w16 (take 2 bytes)) at_length
      ∙ ap (from_be_bytes w16) (take_seam 2 len (payload ++ zeros) refl)
      ∙ from_be_bytes-to_be_bytes_2 (length payload) (omega (arith, fits)) in
      rw (stated, at_payload) (take_seam (length payload) payload zeros refl)

  -- a sector is read as what it was made of
  pub payload_in-sector : length payload ≤ 480 → payload_in mark epoch number (sector mark epoch number payload) ≡ Some payload
  unfolding payload_in
  payload_in-sector fits =
      let bytes = sector mark epoch number payload in
      let is_payload = payload_field-sector fits in
      let short : nat_le (length payload) 480 ≡ true = le-leb (length payload) 480 fits in
      let same : bytes_eq bytes bytes ≡ true = (bytes_eq-Decides bytes bytes).1 refl in
      rw (is_payload, short, same) refl

-- a header is read as what it was made of
pub header_of-sector : (epoch parts : ℕ) → 1 ≤ epoch → epoch < 2 ^ 64 → 1 ≤ parts → parts ≤ 494
    → header_of (sector (header_mark Two) epoch parts []) ≡ Some (record { format = Two; epoch = epoch; parts = parts })
unfolding header_of header_as
header_of-sector epoch parts some_epoch small some_part few =
    let bytes = sector (header_mark Two) epoch parts [] in
    let is_epoch = epoch_field-sector (header_mark Two) epoch parts [] refl small in
    let is_number = number_field-sector (header_mark Two) epoch parts [] refl (omega (arith, few)) in
    let epoch_test : nat_le 1 epoch ≡ true = le-leb 1 epoch some_epoch in
    let parts_test : nat_le 1 parts ≡ true = le-leb 1 parts some_part in
    let few_test : nat_le parts 494 ≡ true = le-leb parts 494 few in
    let same : bytes_eq bytes bytes ≡ true = (bytes_eq-Decides bytes bytes).1 refl in
    rw (is_epoch, is_number, epoch_test, parts_test, few_test, same) refl

-- what a header states is in range
header_as-range : (format : DiskFormat) (bytes : List ℕ) (h : Header) → header_as format bytes ≡ Some h
    → (1 ≤ h.epoch) × (1 ≤ h.parts) × (h.parts ≤ 494)
unfolding header_as
header_as-range format bytes h is =
    let e = epoch_field bytes in
    let n = number_field bytes in
    let test = nat_le 1 e && nat_le 1 n && nat_le n 494 && bytes_eq (sector (header_mark format) e n []) bytes in
    elim (cases_Bool test) [
      | inl is_so ↦
          let parts = and_parts _ _ is_so in
          let front = and_parts _ _ parts.0 in
          let first = and_parts _ _ front.0 in
          let found : Header = record { format = format; epoch = e; parts = n } in
          let stated : Some found ≡ Some h = sym (cond-true test (Some found) None is_so) ∙ is in
          let same : found ≡ h = cc in
          subst (λ (g : Header). (1 ≤ g.epoch) × (1 ≤ g.parts) × (g.parts ≤ 494)) same
          (leb-true 1 e first.0, leb-true 1 n first.1, leb-true n 494 front.1)
      | inr is_not ↦
          let stated : None ≡ Some h = sym (cond-false test (Some (record { format = format; epoch = e; parts = n })) None is_not) ∙ is in cc
    ]

-- a header is one of a format
or_cases : (a b : Option Header) (h : Header) → option_or a b ≡ Some h → (a ≡ Some h) ⊎ (b ≡ Some h)
or_cases None b h is = inr is
or_cases (Some a) b h is = inl is

pub header_of-range : (bytes : List ℕ) (h : Header) → header_of bytes ≡ Some h → (1 ≤ h.epoch) × (1 ≤ h.parts) × (h.parts ≤ 494)
unfolding header_of
header_of-range bytes h is = elim (or_cases _ _ h is) [
  | inl second ↦ header_as-range Two bytes h second
  | inr first ↦ header_as-range One bytes h first
]

-- zeros are no header
pub header_of-zeros : header_of (replicate 512 0) ≡ None
unfolding header_of header_as epoch_field
header_of-zeros = refl

-- nor a record
pub zeros_not_later : (epoch : ℕ) → IsLater epoch (replicate 512 0) → ⊥
zeros_not_later epoch later = let same : 0 ∷ 0 ∷ 0 ∷ 0 ∷ [] ≡ record_mark later.0.0 = later.0.1 in cc

-- a sector with a record's label is of that epoch
labelled_later : (format : DiskFormat) (epoch later number : ℕ) (bytes : List ℕ) → take 16 bytes ≡ label (record_mark format) later number
    → epoch < later → later < 2 ^ 64 → IsLater epoch bytes
unfolding label epoch_field
labelled_later format epoch later number bytes labelled above small =
    let whole : (take 16 bytes) ++ drop 16 bytes ≡ bytes = take-append-drop 16 bytes in
    let split : bytes ≡ record_mark format ++ (to_be_bytes w64 later ++ (to_be_bytes w32 number ++ drop 16 bytes))
    = sym whole ∙ ap (λ (xs : List ℕ). xs ++ drop 16 bytes) labelled in
    let marked : take 4 bytes ≡ record_mark format = rw split refl in
    let stated : epoch_field bytes ≡ later = rw split (from_be_bytes-to_be_bytes_8 later small) in
    ((format, marked), omega (arith, stated, above))

module _ {S A R : Type 0} (kept : Keeping S A R) where
  -- a record is read as the action that it was made of
  pub entry_in-record : IsLawful kept → (epoch number : ℕ) (a : A) → kept.IsAction a
      → entry_in kept Two epoch number (record_sector kept epoch number a) ≡ Holds a
  unfolding entry_in record_sector
  entry_in-record lawful epoch number a is_action =
      let bytes = kept.action_bytes a in
      let the_label = take-sector (record_mark Two) epoch number bytes refl in
      let its_label = label (record_mark Two) epoch number in
      let same : bytes_eq its_label its_label ≡ true = (bytes_eq-Decides its_label its_label).1 refl in
      let holds = payload_in-sector (record_mark Two) epoch number bytes refl (lawful.action_fits a is_action) in
      rw (the_label, same, holds, lawful.read_back a is_action) refl

  -- what is of no later epoch is not a record of a later one
  pub entry_in-not_later : (format : DiskFormat) (epoch later number : ℕ) (bytes : List ℕ) → (IsLater epoch bytes → ⊥) → epoch < later
      → later < 2 ^ 64 → entry_in kept format later number bytes ≡ Missing
  unfolding entry_in
  entry_in-not_later format epoch later number bytes not_later above small =
      let test = bytes_eq (take 16 bytes) (label (record_mark format) later number) in
      let is_false : test ≡ false = elim (cases_Bool test) [
        | inr is_not ↦ is_not
        | inl is_so ↦
            let labelled = (bytes_eq-Decides (take 16 bytes) (label (record_mark format) later number)).0 is_so in
            absurd (not_later (labelled_later format epoch later number bytes labelled above small))
      ] in
      rw is_false refl

  -- a record of an epoch is of no later one
  pub record_not_later : (epoch number : ℕ) (a : A) → epoch < 2 ^ 64 → IsLater epoch (record_sector kept epoch number a) → ⊥
  unfolding record_sector
  record_not_later epoch number a small later =
      omega (arith, later.1, epoch_field-sector (record_mark Two) epoch number (kept.action_bytes a) refl small)

-- the places of an epoch's snapshot and of the next one's are 0 and 512, or 512 and 0
pub places : (epoch : ℕ) → (k : ℕ) × (k ≤ 1) × (place epoch ≡ 512 * k) × (place (epoch + 1) ≡ 512 - 512 * k)
unfolding place
places epoch = ((epoch + 1) % 2, omega arith, omega arith, omega arith)
