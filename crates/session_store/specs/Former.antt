-- Disks of the first format, as a store that knew no other took them.
use Rattle.std.specs.Prelude.{◌≡◌, ◌<◌, ◌≤◌, ℕ, take, Option, Some, Result}
use Rattle.sector_disk.specs.Disk.{Image}
use Rattle.session_store.specs.Layout.{journal_place, second_place, sector_count}
use Rattle.session_store.specs.Keeping.{Keeping}
use Rattle.session_store.specs.declared.disk_format.DiskFormat.TheVariants.{One, Two}
use Rattle.session_store.specs.declared.reading.Header.{Header}
use Rattle.session_store.specs.declared.fault.StoreFault.{StoreFault}
use Rattle.session_store.specs.Form.{mark, record_mark, header_as, epoch_field}
use Rattle.session_store.specs.Stands.{placed, newer, after_header, recovered, IsInOrder}

-- no sector that a store uses has a mark of the second format
abbrev pub IsFormer : Image → Type 0
IsFormer image = (k kind : ℕ) → k < sector_count → take 4 (image k) ≡ mark Two kind → ⊥

-- the header that counted
abbrev pub former_header : Image → Option Header
former_header image = newer (placed 0 (header_as One (image 0))) (placed second_place (header_as One (image second_place)))

-- the state that the image stood for, or why it stood for none
abbrev pub formerly : {S A R : Type 0} → Keeping S A R → Image → Result S StoreFault
formerly kept image = after_header kept image (former_header image)

-- no record was of an epoch above the header's
abbrev pub WasInOrder : Image → Type 0
WasInOrder image = (h : Header) → former_header image ≡ Some h → (k : ℕ) → journal_place ≤ k → k < sector_count
    → take 4 (image k) ≡ record_mark One → h.epoch < epoch_field (image k) → ⊥

-- Such an image stands for what it stood for, and is in order where it was.
abbrev pub FormerLaw : {S A R : Type 0} → Keeping S A R → Type 0
FormerLaw kept = (image : Image) → IsFormer image
    → (recovered kept image ≡ formerly kept image) × (WasInOrder image → IsInOrder image)
