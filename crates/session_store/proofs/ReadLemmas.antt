-- The fields of a sector, and the tests of one.
use Rattle.std.proofs.Common.{◌≡◌, ◌<◌, ◌≤◌, ◌+◌, ◌&&◌, not, nat_lt, nat_le, ℕ, List, [], length, take, drop, get_or, Some, None, Bool, true, false, refl, sym, ap, subst, ◌∙◌, arith, length-drop}
use Rattle.std.proofs.lemmas.List.{get_or-take, get_or-drop, length-take}
use Rattle.std.proofs.lemmas.Bool.{ltb-true, lt-leb, le-leb, not-true, not-false, and_left, and_right, and_from, cond-true, cond-false}
use Rattle.std.specs.Int.{w16, from_be_bytes}
use Rattle.std.specs.Str.{bytes_eq}
use Rattle.session_store.specs.declared.disk_format.DiskFormat.{DiskFormat}
use Rattle.session_store.specs.declared.reading.Entry.TheVariants.{Missing, Damaged as DamagedEntry, Holds}
use Rattle.session_store.specs.Keeping.{Keeping}
use Rattle.session_store.proofs.FormLemmas.{take-sector}
use Rattle.session_store.specs.Form.{label, entry_in, record_mark, sector, payload_field, payload_in, header_mark, header_as, epoch_field, number_field}

-- byte i of a field of so many bytes that begins at a place
pub field_at : (count place : ℕ) (bytes : List ℕ) (i : ℕ) → nat_lt i count ≡ true
    → get_or (take count (drop place bytes)) i 0 ≡ get_or bytes (place + i) 0
field_at count place bytes i within =
    let below = ltb-true i count within in
    get_or-take count (drop place bytes) i 0 below ∙ get_or-drop place bytes i 0

module _ (mark : List ℕ) (epoch number : ℕ) (bytes : List ℕ) where
  -- no payload is longer than 480 bytes
  pub payload_in-long : (len : ℕ) → len ≡ from_be_bytes w16 (take 2 (drop 16 bytes)) → length bytes ≡ 512 → 480 < len
      → payload_in mark epoch number bytes ≡ None
  unfolding payload_in payload_field
  payload_in-long len is whole long =
      let field = take (from_be_bytes w16 (take 2 (drop 16 bytes))) (drop 18 bytes) in
      let longer : 480 < length field = rw (← is) (simp (length-take, length-drop) (omega (arith, whole, long))) in
      cond-false _ _ _ (and_left (nat_le (length field) 480) (bytes_eq (sector mark epoch number field) bytes) (lt-leb (length field) 480 longer))

  -- a sector that is not as it would be written has none
  pub payload_in-unequal : (payload : List ℕ) → payload ≡ payload_field bytes
      → not (bytes_eq (sector mark epoch number payload) bytes) ≡ true → payload_in mark epoch number bytes ≡ None
  unfolding payload_in
  payload_in-unequal payload is unequal =
      let field = payload_field bytes in
      let no : bytes_eq (sector mark epoch number field) bytes ≡ false
      = not-true _ (subst (λ (p : List ℕ). not (bytes_eq (sector mark epoch number p) bytes) ≡ true) is unequal) in
      cond-false _ _ _ (and_right (nat_le (length field) 480) (bytes_eq (sector mark epoch number field) bytes) no)

  -- and one that is has it
  pub payload_in-equal : (payload : List ℕ) → payload ≡ payload_field bytes → length payload ≤ 480
      → not (bytes_eq (sector mark epoch number payload) bytes) ≡ false → payload_in mark epoch number bytes ≡ Some payload
  unfolding payload_in
  payload_in-equal payload is fits equal =
      let field = payload_field bytes in
      let same : bytes_eq (sector mark epoch number field) bytes ≡ true
      = not-false _ (subst (λ (p : List ℕ). not (bytes_eq (sector mark epoch number p) bytes) ≡ false) is equal) in
      let short : nat_le (length field) 480 ≡ true = le-leb (length field) 480 (subst (λ (p : List ℕ). length p ≤ 480) is fits) in
      cond-true _ _ _ (and_from (nat_le (length field) 480) (bytes_eq (sector mark epoch number field) bytes) short same)
      ∙ ap (λ (p : List ℕ). Some p) (sym is)

-- a header's fields are in range, and it is as it would be written
module _ (format : DiskFormat) (bytes : List ℕ) where
  pub range_test : ℕ → ℕ → Bool
  range_test epoch parts = nat_le 1 epoch && nat_le 1 parts && nat_le parts 494

  pub header_as-unequal : (epoch parts : ℕ) → epoch ≡ epoch_field bytes → parts ≡ number_field bytes
      → not (bytes_eq (sector (header_mark format) epoch parts []) bytes) ≡ true → header_as format bytes ≡ None
  unfolding header_as range_test
  header_as-unequal epoch parts is_epoch is_parts unequal =
      let no : bytes_eq (sector (header_mark format) epoch parts []) bytes ≡ false = not-true _ unequal in
      rw (← is_epoch, ← is_parts) (cond-false _ _ _ (and_right (range_test epoch parts) _ no))

  pub header_as-equal : (epoch parts : ℕ) → epoch ≡ epoch_field bytes → parts ≡ number_field bytes
      → 1 ≤ epoch → 1 ≤ parts → parts ≤ 494 → not (bytes_eq (sector (header_mark format) epoch parts []) bytes) ≡ false
      → header_as format bytes ≡ Some (record { format = format; epoch = epoch; parts = parts })
  unfolding header_as
  header_as-equal epoch parts is_epoch is_parts some_epoch some_part few equal =
      let same : bytes_eq (sector (header_mark format) epoch parts []) bytes ≡ true = not-false _ equal in
      let first : nat_le 1 epoch ≡ true = le-leb 1 epoch some_epoch in
      let second : nat_le 1 parts ≡ true = le-leb 1 parts some_part in
      let third : nat_le parts 494 ≡ true = le-leb parts 494 few in
      rw (← is_epoch, ← is_parts, first, second, third, same) refl

  pub header_as-out_of_range : (epoch parts : ℕ) → epoch ≡ epoch_field bytes → parts ≡ number_field bytes
      → range_test epoch parts ≡ false → header_as format bytes ≡ None
  unfolding header_as range_test
  header_as-out_of_range epoch parts is_epoch is_parts out =
      rw (← is_epoch, ← is_parts) (cond-false _ _ _ (and_left (range_test epoch parts) _ out))

  pub no_epoch : (epoch parts : ℕ) → epoch ≡ 0 → range_test epoch parts ≡ false
  unfolding range_test
  no_epoch epoch parts none = and_left (nat_le 1 epoch && nat_le 1 parts) _ (and_left (nat_le 1 epoch) _ (lt-leb 1 epoch (omega (arith, none))))

  pub no_parts : (epoch parts : ℕ) → parts ≡ 0 → range_test epoch parts ≡ false
  unfolding range_test
  no_parts epoch parts none = and_left (nat_le 1 epoch && nat_le 1 parts) _ (and_right (nat_le 1 epoch) _ (lt-leb 1 parts (omega (arith, none))))

  pub many_parts : (epoch parts : ℕ) → 494 < parts → range_test epoch parts ≡ false
  unfolding range_test
  many_parts epoch parts many = and_right (nat_le 1 epoch && nat_le 1 parts) _ (lt-leb parts 494 many)

module _ {S A R : Type 0} (kept : Keeping S A R) (format : DiskFormat) (epoch number : ℕ) (bytes : List ℕ) where
  -- a sector without the record's label is not that record
  pub entry_in-unlabelled : (made : List ℕ) → made ≡ sector (record_mark format) epoch number []
      → not (bytes_eq (take 16 bytes) (take 16 made)) ≡ true → entry_in kept format epoch number bytes ≡ Missing
  unfolding entry_in
  entry_in-unlabelled made is unequal =
      let the_label : take 16 made ≡ label (record_mark format) epoch number
      = ap (λ (xs : List ℕ). take 16 xs) is ∙ take-sector (record_mark format) epoch number [] refl in
      let no : bytes_eq (take 16 bytes) (label (record_mark format) epoch number) ≡ false
      = not-true _ (subst (λ (xs : List ℕ). not (bytes_eq (take 16 bytes) xs) ≡ true) the_label unequal) in
      rw no refl

  labelled : (made : List ℕ) → made ≡ sector (record_mark format) epoch number []
      → not (bytes_eq (take 16 bytes) (take 16 made)) ≡ false
      → bytes_eq (take 16 bytes) (label (record_mark format) epoch number) ≡ true
  labelled made is equal =
      let the_label : take 16 made ≡ label (record_mark format) epoch number
      = ap (λ (xs : List ℕ). take 16 xs) is ∙ take-sector (record_mark format) epoch number [] refl in
      not-false _ (subst (λ (xs : List ℕ). not (bytes_eq (take 16 bytes) xs) ≡ false) the_label equal)

  -- with the label, but out of form or of no action, it is damaged
  pub entry_in-damaged : (made : List ℕ) → made ≡ sector (record_mark format) epoch number []
      → not (bytes_eq (take 16 bytes) (take 16 made)) ≡ false
      → None ≡ payload_in (record_mark format) epoch number bytes → entry_in kept format epoch number bytes ≡ DamagedEntry
  unfolding entry_in
  entry_in-damaged made is equal none = rw (labelled made is equal, ← none) refl

  pub entry_in-no_action : (made : List ℕ) → made ≡ sector (record_mark format) epoch number []
      → not (bytes_eq (take 16 bytes) (take 16 made)) ≡ false
      → (payload : List ℕ) → Some payload ≡ payload_in (record_mark format) epoch number bytes → None ≡ kept.action_of format payload
      → entry_in kept format epoch number bytes ≡ DamagedEntry
  unfolding entry_in
  entry_in-no_action made is equal payload some none = rw (labelled made is equal, ← some, ← none) refl

  -- and otherwise it holds its action
  pub entry_in-action : (made : List ℕ) → made ≡ sector (record_mark format) epoch number []
      → not (bytes_eq (take 16 bytes) (take 16 made)) ≡ false
      → (payload : List ℕ) → Some payload ≡ payload_in (record_mark format) epoch number bytes
      → (a : A) → Some a ≡ kept.action_of format payload → entry_in kept format epoch number bytes ≡ Holds a
  unfolding entry_in
  entry_in-action made is equal payload some a holds = rw (labelled made is equal, ← some, ← holds) refl
