-- The frame law.
use Rattle.std.specs.Prelude.{◌≡◌, ◌+◌, Some}
use Rattle.sector_disk.specs.Disk.{Image}
use Rattle.session_store.specs.Keeping.{Keeping}
use Rattle.session_store.specs.Stands.{header_in, recovered}
use Rattle.session_store.specs.Snapshot.{SameButParts}
use Rattle.session_store.specs.declared.reading.Header.{Header}

-- An image whose header counts for an epoch stands for the same after any change of the other snapshot's parts.
abbrev pub FrameLaw : {S A R : Type 0} → Keeping S A R → Type 0
FrameLaw kept = (a b : Image) (h : Header) → header_in a ≡ Some h → SameButParts (h.epoch + 1) a b
    → recovered kept b ≡ recovered kept a
