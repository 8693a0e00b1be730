-- Where things stand on a disk, in sectors of 512 bytes, and how much there is room for.
use Rattle.std.specs.Prelude.{ℕ}

-- a store uses the first so many sectors, and a disk has at least these
abbrev pub sector_count : ℕ
sector_count = 2048

-- the place of a snapshot has so many sectors
abbrev pub snapshot_size : ℕ
snapshot_size = 512

-- the first snapshot begins at sector 0, and the second at this one
abbrev pub second_place : ℕ
second_place = 512

-- the journal begins at this sector, behind both snapshots
abbrev pub journal_place : ℕ
journal_place = 1024

-- and has room for so many records
abbrev pub record_limit : ℕ
record_limit = 1024

-- a state has at most so many parts
abbrev pub part_limit : ℕ
part_limit = 494

-- the bytes of a sector behind its label and the payload's length
abbrev pub payload_room : ℕ
payload_room = 494

-- a payload has at most so many bytes
abbrev pub payload_limit : ℕ
payload_limit = 480
