-- What the command `check` says of a disk: how far its session is, and how its snapshots stand.
use Rattle.std.specs.Prelude.{◌≡◌, ◌⊎◌, ◌+◌, ◌++◌, ℕ, List, [], ◌∷◌, codes, if◌then◌else◌, is_some, Option, None, Some, Err, sum_by}
use Rattle.club_commands.specs.Basis.{decimal, Stream, IsUntouched, Disk, Image, StoreFault, NotFormatted, Damaged, header_in, session_keeping, SessionValue, Store, RefusesReading}
use Rattle.sector_disk.specs.Runs.{Quiet}
use Rattle.session_store.specs.declared.disk_format.DiskFormat.{DiskFormat}
use Rattle.session_store.specs.declared.reading.Header.{Header}
use Rattle.session_store.specs.Form.{digit}
use Rattle.session_store.specs.Looking.{IsSeen, older_header_in}
use Rattle.std.specs.List.{range_with_len}
use Rattle.std.specs.Option.{option_map}
use Rattle.bridge_movement.specs.declared.row.Row.{Row}
use Rattle.session_rules.specs.declared.outcome.Outcome.{Outcome}
use Rattle.session_rules.specs.declared.outcome.Outcome.TheVariants.{Unfinished}
use Rattle.session_rules.specs.Outcome.{outcome_of}
use Rattle.session_rules.specs.State.{is_closed, deal_on, record_of}
use Rattle.club_commands.specs.Ended.{Ended, Writes, WritesAndStops, store_line}

-- 1 where the board is dealt, and else 0
abbrev pub dealt_boards_at : SessionValue → ℕ → ℕ
dealt_boards_at s board = if is_some (deal_on s.deals board) then 1 else 0

-- how many boards are dealt
abbrev pub boards_dealt : SessionValue → ℕ
boards_dealt s = sum_by (dealt_boards_at s) (range_with_len 1 36)

-- 1 where a play is finished, void or adjusted, and else 0, as where there is no such play
abbrev pub done_by : Option Outcome → ℕ
done_by None = 0
done_by (Some Unfinished) = 0
done_by _ = 1

-- the play of the board at an index of a row's set
abbrev pub done_at : SessionValue → Row → ℕ → ℕ
done_at s row index =
    done_by (option_map outcome_of (record_of s (record { round = row.round; table = row.table; index = index })))

-- the plays of a row's set, of at most three boards
abbrev pub row_done : SessionValue → Row → ℕ
row_done s row = (done_at s row 1 + done_at s row 2) + done_at s row 3

-- how many plays are finished, void or adjusted
abbrev pub plays_done : SessionValue → ℕ
plays_done s = sum_by (row_done s) s.configuration.movement.rows

-- a text, and below it a line of some words and what is said by them
abbrev pub with_said : List ℕ → List ℕ → List ℕ → List ℕ
with_said text words value = ((text ++ words) ++ value) ++ codes "\n"

-- and below it the round, of how many, or that the session is closed
abbrev pub with_round : List ℕ → SessionValue → List ℕ
with_round text s =
    if is_closed s.configuration s.round then text ++ codes "session closed\n"
    else with_said text (codes "round ") ((decimal s.round ++ codes " of ") ++ decimal s.configuration.movement.shape.rounds)

-- and below it how a snapshot stands: its format, epoch and sector, and the number of records behind it
abbrev pub with_standing : List ℕ → DiskFormat → ℕ → ℕ → ℕ → List ℕ
with_standing text format epoch sector records =
    with_said (with_said (with_said (with_said text (codes "format ") (digit format ∷ []))
    (codes "epoch ") (decimal epoch)) (codes "snapshot in sector ") (decimal sector)) (codes "records ") (decimal records)

-- and below it a session: its event, date and round, and how many boards are dealt and plays finished or ruled on
abbrev pub with_state : List ℕ → SessionValue → List ℕ
with_state text s =
    with_said (with_said (with_round (with_said (with_said text (codes "event ") s.configuration.event)
    (codes "date ") s.configuration.date) s)
    (codes "boards dealt ") (decimal (boards_dealt s))) (codes "plays finished or ruled on ") (decimal (plays_done s))

-- why the older snapshot gives nothing: that there is none, or what is wrong
abbrev pub no_older_text : StoreFault → List ℕ
no_older_text NotFormatted = codes "no older snapshot\n"
no_older_text fault = codes "older snapshot: " ++ store_line fault

-- Looking at a disk under that header of it left it so, and what was seen is this text, below a heading. Nothing was written
-- to the disk, and no call of it failed.
abbrev pub SaysSeen : {D : Type 0} → Disk D → (Image → Option Header) → List ℕ → D → D → List ℕ → Type 0
SaysSeen disk header heading d left text = Quiet disk d left
    × ((s : SessionValue) × (format : DiskFormat) × (epoch : ℕ) × (sector : ℕ) × (records : ℕ)
    × IsSeen session_keeping disk header d left s format epoch sector records
    × (text ≡ with_state (with_standing heading format epoch sector records) s))

module _ {D : Type 0} (disk : Disk D) where
  -- what the older snapshot holds is this text, or it gives nothing, which the text says; reading it left the disk so
  abbrev pub SaysOlder : D → D → List ℕ → Type 0
  SaysOlder d left text = SaysSeen disk older_header_in (codes "older snapshot\n") d left text
      ⊎ ((fault : StoreFault) × RefusesReading disk older_header_in d left fault × (text ≡ no_older_text fault))

  -- what is said of a disk that gave nothing when it was read: at a damaged sector what the older snapshot holds is written, or why it
  -- gives none; else nothing is written; the fault is why it gave nothing
  abbrev pub SaysRefused : D → D → StoreFault → Stream → Ended → Type 0
  SaysRefused read left (Damaged sector) output ended =
      (text : List ℕ) × SaysOlder read left text × WritesAndStops output text (Store (Damaged sector)) ended
  SaysRefused read left fault output ended = (left ≡ read) × (ended ≡ Err (Store fault)) × IsUntouched output

  -- a disk was read, which gave nothing, and that is said of it
  abbrev pub ChecksRefused : D → D → Stream → Ended → Type 0
  ChecksRefused d left output ended =
      (read : D) × (cause : StoreFault) × RefusesReading disk header_in d read cause × SaysRefused read left cause output ended

  -- what a disk holds is written; or reading it gave nothing, which is said; reading left it so
  abbrev pub Checks : D → D → Stream → Ended → Type 0
  Checks d left output ended = ((text : List ℕ) × SaysSeen disk header_in [] d left text × Writes output text ended)
      ⊎ ChecksRefused d left output ended
