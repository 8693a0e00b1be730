-- Parts read one after another.
use Rattle.std.proofs.Common.{◌≡◌, ◌<◌, ◌≤◌, ◌+◌, ◌-◌, ℕ, suc, List, [], ◌∷◌, ◌++◌, length, ◌↔◌, IsOk, OnOk, Option, Some, None, Result, Ok, Err, refl, sym, ap, ◌∙◌, arith, append_assoc, append-nil}
use Rattle.sector_disk.specs.Disk.{Image, Disk}
use Rattle.sector_disk.specs.Calls.{Called, Reads}
use Rattle.sector_disk.specs.Runs.{Quiet}
use Rattle.sector_disk.proofs.RunLaws.{remains, remains_on, none_read, reads_on}
use Rattle.session_store.specs.Form.{payload_in, part_mark, place}
use Rattle.session_store.specs.declared.disk_format.DiskFormat.{DiskFormat}
use Rattle.session_store.specs.declared.fault.StoreFault.{StoreFault}
use Rattle.session_store.specs.declared.fault.StoreFault.TheVariants.{Damaged}
use Rattle.session_store.specs.Stands.{with_part, after_part, parts_from}

-- some parts before those that follow them
pub with_parts : List (List ℕ) → Result (List (List ℕ)) StoreFault → Result (List (List ℕ)) StoreFault
with_parts before (Ok parts) = Ok (before ++ parts)
with_parts before (Err fault) = Err fault

with_parts-one : (before : List (List ℕ)) (part : List ℕ) (rest : Result (List (List ℕ)) StoreFault)
    → with_parts before (with_part part rest) ≡ with_parts (before ++ part ∷ []) rest
unfolding with_parts with_part
with_parts-one before part (Ok parts) = ap (λ (xs : List (List ℕ)). Ok xs) (sym (append_assoc before (part ∷ []) parts))
with_parts-one before part (Err fault) = refl

-- before the first
pub parts-none : (rest : Result (List (List ℕ)) StoreFault) → rest ≡ with_parts [] rest
unfolding with_parts
parts-none (Ok parts) = refl
parts-none (Err fault) = refl

module _ (format : DiskFormat) (image : Image) (epoch i count : ℕ) (before : List (List ℕ)) where
  -- one more
  pub parts-more : (at : List ℕ) (part : List ℕ) → i < count → at ≡ image (place epoch + 1 + i) → payload_in (part_mark format) epoch i at ≡ Some part
      → with_parts before (parts_from format image epoch i (count - i)) ≡ with_parts (before ++ part ∷ []) (parts_from format image epoch (i + 1) (count - (i + 1)))
  unfolding parts_from after_part
  parts-more at part within same read =
      let left : count - i ≡ suc (count - (i + 1)) = omega arith in
      let here : payload_in (part_mark format) epoch i (image (place epoch + 1 + i)) ≡ Some part = ap (payload_in (part_mark format) epoch i) (sym same) ∙ read in
      ap (λ (n : ℕ). with_parts before (parts_from format image epoch i n)) left
      ∙ ap (λ (o : Option (List ℕ)). with_parts before (after_part (place epoch + 1 + i) o (parts_from format image epoch (i + 1) (count - (i + 1))))) here
      ∙ with_parts-one before part (parts_from format image epoch (i + 1) (count - (i + 1)))

  -- one that is out of form
  pub parts-damaged : (at : List ℕ) → i < count → at ≡ image (place epoch + 1 + i) → payload_in (part_mark format) epoch i at ≡ None
      → with_parts before (parts_from format image epoch i (count - i)) ≡ Err (Damaged (place epoch + 1 + i))
  unfolding parts_from after_part with_parts
  parts-damaged at within same read =
      let left : count - i ≡ suc (count - (i + 1)) = omega arith in
      let here : payload_in (part_mark format) epoch i (image (place epoch + 1 + i)) ≡ None = ap (payload_in (part_mark format) epoch i) (sym same) ∙ read in
      ap (λ (n : ℕ). with_parts before (parts_from format image epoch i n)) left
      ∙ ap (λ (o : Option (List ℕ)). with_parts before (after_part (place epoch + 1 + i) o (parts_from format image epoch (i + 1) (count - (i + 1))))) here

  -- all of them
  pub parts-all : count ≤ i → with_parts before (parts_from format image epoch i (count - i)) ≡ Ok before
  unfolding parts_from with_parts
  parts-all past =
      let none : count - i ≡ 0 = omega arith in
      ap (λ (n : ℕ). with_parts before (parts_from format image epoch i n)) none ∙ ap (λ (xs : List (List ℕ)). Ok xs) (append-nil before)

-- one read is quiet
pub quiet_read : {D T E : Type 0} (disk : Disk D) (old new : D) (i : ℕ) (bytes : List ℕ) (result : Result T E)
    → Called disk old new result → (disk.honest old → Reads disk old new i bytes result) → Quiet disk old new
quiet_read disk old new i bytes result called did = record {
  remains = remains_on disk old old new result (remains disk old) called;
  only_read = λ honest. record {
    reads = (did honest).untouched.reads;
    moments = reads_on disk old old new (disk.may_leave old) result (none_read disk old honest).moments called i bytes (did honest);
  };
}

-- a payload of at most 480 bytes fills a part that is empty
pub filled : {E : Type 0} (result : Result (Unit {0}) E) (old new payload : List ℕ) → old ≡ [] → length payload ≤ 480
    → IsOk result ↔ (length old + length payload ≤ 480) → OnOk result (new ≡ old ++ payload) → new ≡ payload
filled (Ok _) old new payload none fits variant is = is ∙ ap (λ (xs : List ℕ). xs ++ payload) none
filled (Err _) old new payload none fits variant is =
    let never = variant.1 (omega (arith, ap length none, fits)) in absurd (cc never)
