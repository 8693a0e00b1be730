-- The epochs of images.
use Rattle.std.specs.Prelude.{◌≤◌, ℕ, Option, Some, None}
use Rattle.sector_disk.specs.Disk.{Image}
use Rattle.session_store.specs.declared.reading.Header.{Header}
use Rattle.session_store.specs.Stands.{header_in}

-- the epoch that a header states, or 0 where there is none
unfoldable pub epoch_of : Option Header → ℕ
epoch_of None = 0
epoch_of (Some h) = h.epoch

-- the epoch of the header that counts, or 0 where none does
abbrev pub epoch_in : Image → ℕ
epoch_in image = epoch_of (header_in image)

-- it is one from this epoch to that one
abbrev pub IsOfEpochs : ℕ → ℕ → Image → Type 0
IsOfEpochs least most image = (least ≤ epoch_in image) × (epoch_in image ≤ most)
