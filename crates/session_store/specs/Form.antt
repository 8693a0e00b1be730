-- The form of sectors: a label of mark, epoch and number, the payload's length, the payload, and zeros.
use Rattle.std.specs.Prelude.{◌+◌, ◌-◌, ◌*◌, ◌%◌, ◌&&◌, nat_le, ℕ, List, [], ◌∷◌, ◌++◌, length, take, drop, replicate, if◌then◌else◌, Option, Some, None}
use Rattle.std.specs.Option.{option_or}
use Rattle.std.specs.Int.{w16, w32, w64, to_be_bytes, from_be_bytes}
use Rattle.std.specs.Str.{bytes_eq}
use Rattle.session_store.specs.Layout.{part_limit, payload_limit, payload_room, second_place}
use Rattle.session_store.specs.Keeping.{Keeping}
use Rattle.session_store.specs.declared.disk_format.DiskFormat.{DiskFormat}
use Rattle.session_store.specs.declared.disk_format.DiskFormat.TheVariants.{One, Two}
use Rattle.session_store.specs.declared.reading.Header.{Header}
use Rattle.session_store.specs.declared.reading.Entry.{Entry}
use Rattle.session_store.specs.declared.reading.Entry.TheVariants.{Missing, Damaged, Holds}

-- the digit of a format, in ASCII
abbrev pub digit : DiskFormat → ℕ
digit One = 49
digit Two = 50

-- the marks, in ASCII: BD1H, BD1P and BD1R in the first format, BD2H, BD2P and BD2R in the second
abbrev pub mark : DiskFormat → ℕ → List ℕ
mark format kind = 66 ∷ 68 ∷ digit format ∷ kind ∷ []

-- of a header, by the letter H
abbrev pub header_mark : DiskFormat → List ℕ
header_mark format = mark format 72

-- of a part, by the letter P
abbrev pub part_mark : DiskFormat → List ℕ
part_mark format = mark format 80

-- of a record, by the letter R
abbrev pub record_mark : DiskFormat → List ℕ
record_mark format = mark format 82

-- the first 16 bytes of a sector
unfoldable pub label : List ℕ → ℕ → ℕ → List ℕ
label mark epoch number = mark ++ to_be_bytes w64 epoch ++ to_be_bytes w32 number

-- the 512 bytes of a sector with this payload, of at most 480 bytes
unfoldable pub sector : List ℕ → ℕ → ℕ → List ℕ → List ℕ
sector mark epoch number payload =
    label mark epoch number ++ to_be_bytes w16 (length payload) ++ payload ++ replicate (payload_room - length payload) 0

-- the epoch that a sector states
unfoldable pub epoch_field : List ℕ → ℕ
epoch_field bytes = from_be_bytes w64 (take 8 (drop 4 bytes))

-- the number that it states: of parts in a header, else the part's or the record's own
unfoldable pub number_field : List ℕ → ℕ
number_field bytes = from_be_bytes w32 (take 4 (drop 12 bytes))

-- the payload that it states, by the payload's length
unfoldable pub payload_field : List ℕ → List ℕ
payload_field bytes = take (from_be_bytes w16 (take 2 (drop 16 bytes))) (drop 18 bytes)

-- the payload of a sector of this mark, epoch and number that is in form: the sector written anew
unfoldable pub payload_in : List ℕ → ℕ → ℕ → List ℕ → Option (List ℕ)
payload_in mark epoch number bytes =
    if nat_le (length (payload_field bytes)) payload_limit && bytes_eq (sector mark epoch number (payload_field bytes)) bytes
    then Some (payload_field bytes) else None

-- what a header of a format states: an epoch from 1 on, and a number of parts from 1 to 494
unfoldable pub header_as : DiskFormat → List ℕ → Option Header
header_as format bytes =
    if nat_le 1 (epoch_field bytes) && nat_le 1 (number_field bytes) && nat_le (number_field bytes) part_limit
    && bytes_eq (sector (header_mark format) (epoch_field bytes) (number_field bytes) []) bytes
    then Some (record { format = format; epoch = epoch_field bytes; parts = number_field bytes }) else None

-- of either format; no sector is a header of both
unfoldable pub header_of : List ℕ → Option Header
header_of bytes = option_or (header_as Two bytes) (header_as One bytes)

-- where the snapshot of an epoch stands: at 0 where it is odd, at 512 where it is even
unfoldable pub place : ℕ → ℕ
place epoch = second_place * ((epoch + 1) % 2)

module _ {S A R : Type 0} (kept : Keeping S A R) where
  -- what a sector of the journal is to the epoch's record of this number and format: without its label it is missing;
  -- with it, it is damaged or holds an action
  unfoldable pub entry_in : DiskFormat → ℕ → ℕ → List ℕ → Entry A
  entry_in format epoch number bytes =
      if bytes_eq (take 16 bytes) (label (record_mark format) epoch number) then
      (elim (payload_in (record_mark format) epoch number bytes) [
        | None ↦ Damaged
        | Some payload ↦ elim (kept.action_of format payload) [ None ↦ Damaged | Some a ↦ Holds a ]
      ])
      else Missing

  -- the sector of a record, as it is written
  unfoldable pub record_sector : ℕ → ℕ → A → List ℕ
  record_sector epoch number a = sector (record_mark Two) epoch number (kept.action_bytes a)
