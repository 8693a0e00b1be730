-- Disks of the first format are read as they were.
use Rattle.std.proofs.Common.{◌≡◌, ◌<◌, ◌&&◌, nat_le, ℕ, List, [], take, Option, None, inl, inr, refl, sym, ap, ◌∙◌, arith}
use Rattle.std.proofs.lemmas.Bool.{and_parts, cases_Bool, cond-false}
use Rattle.std.proofs.lemmas.Slice.Eq.{bytes_eq-Decides}
use Rattle.std.specs.Option.{option_or}
use Rattle.std.specs.Str.{bytes_eq}
use Rattle.sector_disk.specs.Disk.{Image, Disk}
use Rattle.session_store.specs.Keeping.{Keeping}
use Rattle.session_store.specs.declared.disk_format.DiskFormat.{DiskFormat}
use Rattle.session_store.specs.declared.disk_format.DiskFormat.TheVariants.{One, Two}
use Rattle.session_store.specs.declared.reading.Header.{Header}
use Rattle.session_store.specs.Form.{header_mark, record_mark, label, sector, header_as, header_of, epoch_field, number_field}
use Rattle.session_store.specs.Stands.{header_in, after_header, recovered, IsLater}
use Rattle.session_store.specs.Former.{IsFormer, former_header, FormerLaw}
use Rattle.session_store.specs.Run.{FormerRunLaw}

-- a header of a format has its mark
header_as-mark : (format : DiskFormat) (bytes : List ℕ) → (take 4 bytes ≡ header_mark format → ⊥) → header_as format bytes ≡ None
unfolding header_as sector label
header_as-mark format bytes unmarked =
    let e = epoch_field bytes in
    let n = number_field bytes in
    let written = sector (header_mark format) e n [] in
    let test = nat_le 1 e && nat_le 1 n && nat_le n 494 && bytes_eq written bytes in
    elim (cases_Bool test) [
      | inl is_so ↦
          let same : written ≡ bytes = (bytes_eq-Decides written bytes).0 (and_parts _ _ is_so).1 in
          absurd (unmarked (ap (take 4) (sym same) ∙ marked format e n))
      | inr is_not ↦ cond-false test _ None is_not
    ]
  where
    marked : (format : DiskFormat) (e n : ℕ) → take 4 (sector (header_mark format) e n []) ≡ header_mark format
    marked format e n = refl

-- without the mark of the second format it is one of the first
former_header_of : (bytes : List ℕ) → (take 4 bytes ≡ header_mark Two → ⊥) → header_of bytes ≡ header_as One bytes
unfolding header_of
former_header_of bytes unmarked = ap (λ (o : Option Header). option_or o (header_as One bytes)) (header_as-mark Two bytes unmarked)

former_counts : (image : Image) → IsFormer image → header_in image ≡ former_header image
unfolding header_in
former_counts image former =
    let first = former_header_of (image 0) (former 0 72 (omega arith)) in
    let second = former_header_of (image 512) (former 512 72 (omega arith)) in
    rw (first, second) refl

-- no record has the mark of the second
not_later : (image : Image) (epoch k : ℕ) → IsFormer image → k < 2048
    → (take 4 (image k) ≡ record_mark One → epoch < epoch_field (image k) → ⊥) → IsLater epoch (image k) → ⊥
not_later image epoch k former below none ((One, marked), above) = none marked above
not_later image epoch k former below none ((Two, marked), above) = former k 82 below marked

pub former_law : {S A R : Type 0} (kept : Keeping S A R) → FormerLaw kept
unfolding recovered
former_law kept image former =
    let same = former_counts image former in (
      ap (after_header kept image) same,
      λ was h counts k above below later.
          not_later image h.epoch k former below (was h (sym same ∙ counts) k above below) later,
    )

-- a run may begin at what a store of the first format left
pub former_run : {D S A R : Type 0} (kept : Keeping S A R) (disk : Disk D) → FormerRunLaw kept disk
former_run kept disk start accepted confirmed d honest large images = record {
  honest = honest;
  large = large;
  images = λ c left.
      let stood = images c left in
      let law = former_law kept c stood.former in
      record {
        count = stood.count;
        enough = stood.enough;
        few = stood.few;
        state = stood.state;
        made = stood.made;
        stands = law.0 ∙ stood.stood;
        in_order = law.1 stood.in_order;
      };
}
