-- What an image of a disk stands for: the snapshot with the greater epoch, and then that epoch's records in turn. The header
-- says in which format its parts and records are read.
use Rattle.std.specs.Prelude.{◌≡◌, ◌<◌, ◌≤◌, ◌+◌, ◌==◌, nat_lt, ℕ, zero, suc, List, [], ◌∷◌, take, if◌then◌else◌, Option, Some, None, Result, Ok, Err}
use Rattle.sector_disk.specs.Disk.{Image}
use Rattle.session_store.specs.Layout.{journal_place, record_limit, second_place, sector_count}
use Rattle.session_store.specs.Keeping.{Keeping}
use Rattle.session_store.specs.declared.disk_format.DiskFormat.{DiskFormat}
use Rattle.session_store.specs.declared.reading.Header.{Header}
use Rattle.session_store.specs.Form.{header_of, payload_in, part_mark, record_mark, entry_in, epoch_field, place}
use Rattle.session_store.specs.declared.reading.Entry.{Entry}
use Rattle.session_store.specs.declared.reading.Entry.TheVariants.{Missing, Damaged as DamagedEntry, Holds}
use Rattle.session_store.specs.declared.fault.StoreFault.{StoreFault}
use Rattle.session_store.specs.declared.fault.StoreFault.TheVariants.{NotFormatted, Damaged}

-- a header at 0 or at 512, if its epoch's snapshot has its place there
unfoldable pub placed : ℕ → Option Header → Option Header
placed at None = None
placed at (Some h) = if place h.epoch == at then Some h else None

-- the header that these bytes are at this sector
abbrev pub header_at : ℕ → List ℕ → Option Header
header_at at bytes = placed at (header_of bytes)

-- the header with the greater epoch
unfoldable pub newer : Option Header → Option Header → Option Header
newer None b = b
newer (Some a) None = Some a
newer (Some a) (Some b) = if nat_lt a.epoch b.epoch then Some b else Some a

-- the header that counts
unfoldable pub header_in : Image → Option Header
header_in image = newer (header_at 0 (image 0)) (header_at second_place (image second_place))

-- a part before those that follow it
unfoldable pub with_part : List ℕ → Result (List (List ℕ)) StoreFault → Result (List (List ℕ)) StoreFault
with_part payload (Ok parts) = Ok (payload ∷ parts)
with_part payload (Err fault) = Err fault

-- the parts, if the one in this sector is in form
unfoldable pub after_part : ℕ → Option (List ℕ) → Result (List (List ℕ)) StoreFault → Result (List (List ℕ)) StoreFault
after_part at None rest = Err (Damaged at)
after_part at (Some payload) rest = with_part payload rest

-- the payloads of parts i, i + 1, .., so many of them; or the first sector out of form
unfoldable pub parts_from : DiskFormat → Image → ℕ → ℕ → ℕ → Result (List (List ℕ)) StoreFault
parts_from format image epoch i zero = Ok []
parts_from format image epoch i (suc left) =
    after_part (place epoch + 1 + i) (payload_in (part_mark format) epoch i (image (place epoch + 1 + i)))
    (parts_from format image epoch (i + 1) left)

module _ {S A R : Type 0} (kept : Keeping S A R) where
  -- after record k's step: the records go on where it is accepted
  unfoldable pub after_step : ℕ → (S → Result S StoreFault) → Result S R → Result S StoreFault
  after_step k next (Ok s) = next s
  after_step k next (Err _) = Err (Damaged (journal_place + k))

  -- after record k's sector: the records end where it is missing
  unfoldable pub after_entry : ℕ → S → (S → Result S StoreFault) → Entry A → Result S StoreFault
  after_entry k s next Missing = Ok s
  after_entry k s next DamagedEntry = Err (Damaged (journal_place + k))
  after_entry k s next (Holds a) = after_step k next (kept.step s a)

  -- the state after records k, k + 1, .. up to the first that is missing, of at most so many; or the first sector that
  -- is damaged or whose action is refused
  unfoldable pub replay : DiskFormat → ℕ → Image → ℕ → ℕ → S → Result S StoreFault
  replay format zero image epoch k s = Ok s
  replay format (suc left) image epoch k s =
      after_entry k s (λ t. replay format left image epoch (k + 1) t) (entry_in kept format epoch k (image (journal_place + k)))

  -- after the state of the header's parts: that of its epoch's records, if the parts have one
  unfoldable pub after_state : Image → Header → Option S → Result S StoreFault
  after_state image h None = Err (Damaged (place h.epoch))
  after_state image h (Some s) = replay h.format record_limit image h.epoch 0 s

  -- after the parts, if each is in form
  unfoldable pub after_parts : Image → Header → Result (List (List ℕ)) StoreFault → Result S StoreFault
  after_parts image h (Err fault) = Err fault
  after_parts image h (Ok parts) = after_state image h (kept.state_of h.format parts)

  -- the state that a header's parts and its epoch's records lead to
  abbrev pub after_snapshot : Image → Header → Result S StoreFault
  after_snapshot image h = after_parts image h (parts_from h.format image h.epoch 0 h.parts)

  -- after the header, if there is one
  unfoldable pub after_header : Image → Option Header → Result S StoreFault
  after_header image None = Err NotFormatted
  after_header image (Some h) = after_snapshot image h

  -- the state that an image stands for, or why it stands for none
  unfoldable pub recovered : Image → Result S StoreFault
  recovered image = after_header image (header_in image)

-- a record's mark, of either format, and an epoch above this one
abbrev pub IsLater : ℕ → List ℕ → Type 0
IsLater epoch bytes = ((format : DiskFormat) × (take 4 bytes ≡ record_mark format)) × (epoch < epoch_field bytes)

-- no sector of the journal is of an epoch above this one
abbrev pub NoneLater : ℕ → Image → Type 0
NoneLater epoch image = (k : ℕ) → journal_place ≤ k → k < sector_count → IsLater epoch (image k) → ⊥

-- no sector of the journal is of an epoch above the header's
abbrev pub IsInOrder : Image → Type 0
IsInOrder image = (h : Header) → header_in image ≡ Some h → NoneLater h.epoch image
