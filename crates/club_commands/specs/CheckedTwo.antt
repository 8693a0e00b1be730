-- What the command `check` says of two disks: what each holds, and how they stand to each other.
use Rattle.std.specs.Prelude.{◌≡◌, ◌⊎◌, ◌++◌, ℕ, Bool, true, false, List, [], codes, Option, None, Some, Result, Ok, Err, IfOk, IfErr}
use Rattle.club_commands.specs.Basis.{Bor, Stream, IsUntouched, Disk, ClubDisk, file_disk, header_in, StoreFault, DiskFault, NoMemory, RefusesReading, RunFault, Store}
use Rattle.club_commands.specs.declared.fault.RunFault.TheVariants.{Joining}
use Rattle.club_commands.specs.declared.work.Work.TheVariants as work
use Rattle.sector_disk.specs.declared.disk.DiskFault.{DiskFault as Unfound}
use Rattle.session_pair.specs.Joining.{IsJudged, IsUnjudged}
use Rattle.session_pair.specs.Unjoined.{Held, IsHeld}
use Rattle.session_pair.specs.declared.joining.Judged.{Judged}
use Rattle.session_pair.specs.declared.joining.JoinFault.{JoinFault}
use Rattle.session_pair.specs.declared.joining.JoinFault.TheVariants.{Copy as NoCopy}
use Rattle.club_commands.specs.Checked.{with_standing, with_state, ChecksRefused}
use Rattle.club_commands.specs.Ended.{Ended, Writes, WritesAndStops}
use Rattle.club_commands.specs.Works.{HasWorked}

-- it, below a heading
abbrev pub held_text : List ℕ → Held → List ℕ
held_text heading found =
    with_state (with_standing heading found.format found.epoch found.sector found.records) found.state

-- what two disks hold, one below the other
abbrev pub both_text : Held → Held → List ℕ
both_text ours theirs = held_text (codes "disk\n") ours ++ held_text (codes "copy\n") theirs

-- by whether both hold the same, and whether the disk is taken first, how they stand to each other
abbrev pub newer_line : Bool → Bool → List ℕ
newer_line true disk_first = codes "copy is level\n"
newer_line false true = codes "disk is newer\n"
newer_line false false = codes "copy is newer\n"

-- that, or nothing where they are not joined
abbrev pub judged_line : Result Judged JoinFault → List ℕ
judged_line (Ok judged) = newer_line judged.was_level judged.disk_first
judged_line (Err fault) = []

-- how two disks were judged, or why they are not joined
abbrev pub IsCompared : Held → Held → Result Judged JoinFault → Type 0
IsCompared ours theirs judged =
    IfOk judged (IsJudged ours.state ours.epoch ours.records theirs.state theirs.epoch theirs.records)
    × IfErr judged (IsUnjudged ours.state ours.epoch theirs.state theirs.epoch)

-- a text is written; and that two disks are not joined is the fault
abbrev pub EndsJudged : List ℕ → Result Judged JoinFault → Stream → Ended → Type 0
EndsJudged text (Ok judged) output ended = Writes output text ended
EndsJudged text (Err fault) output ended = WritesAndStops output text (Joining fault) ended

-- memory was refused, and nothing is written
abbrev pub IsUntold : Stream → Ended → Type 0
IsUntold output ended = (ended ≡ Err (Store NoMemory)) × IsUntouched output

-- a text is written, and how two disks stand to each other; or memory was refused
abbrev pub TellsJudged : List ℕ → Result Judged JoinFault → Stream → Ended → Type 0
TellsJudged text judged output ended = IsUntold output ended ⊎ EndsJudged (text ++ judged_line judged) judged output ended

-- what two disks hold is written, and how they stand to each other; or memory was refused
abbrev pub TellsTwo : Held → Held → Stream → Ended → Type 0
TellsTwo ours theirs output ended = IsUntold output ended
    ⊎ ((judged : Result Judged JoinFault) × IsCompared ours theirs judged × TellsJudged (both_text ours theirs) judged output ended)

-- what the first of two disks holds is written, and that the second gives nothing is the fault
abbrev pub StopsAlone : Held → StoreFault → Stream → Ended → Type 0
StopsAlone ours cause output ended = WritesAndStops output (held_text (codes "disk\n") ours) (Joining (NoCopy cause)) ended

module _ {D : Type 0} (disk : Disk D) where
  -- The first of two disks gave nothing, which is said of it alone; or the second gave nothing, which is the fault, and what the first
  -- holds is written; or both were read, and what they hold is written. Nothing was written to either.
  abbrev pub ChecksTwo : D → D → D → D → Stream → Ended → Type 0
  ChecksTwo d e left other output ended =
      ((other ≡ e) × ChecksRefused disk d left output ended)
      ⊎ (((ours : Held) × (cause : StoreFault) × IsHeld disk d left ours × RefusesReading disk header_in e other cause
      × StopsAlone ours cause output ended)
      ⊎ ((ours : Held) × (theirs : Held) × IsHeld disk d left ours × IsHeld disk e other theirs × TellsTwo ours theirs output ended))

-- a disk was not found, which is the fault, and nothing is written
abbrev pub StopsUnfound : RunFault → Stream → Ended → Type 0
StopsUnfound fault output ended = (ended ≡ Err fault) × IsUntouched output

-- it was said what two disks hold that were found; or the first was not, or the second
abbrev pub ChecksFound : {E F : Type 0} → Result ClubDisk E → Result ClubDisk F → Stream → Ended → Type 0
ChecksFound (Err none) copy output ended = StopsUnfound (Store DiskFault) output ended
ChecksFound (Ok d) (Err none) output ended = StopsUnfound (Joining (NoCopy DiskFault)) output ended
ChecksFound (Ok d) (Ok e) output ended = (left : ClubDisk) × (other : ClubDisk) × ChecksTwo file_disk d e left other output ended

-- it was said of whatever disks were found in two files, of which no contract can say more
abbrev pub HasCheckedTwo : Stream → Ended → Type 0
HasCheckedTwo output ended = (disk : Result ClubDisk Unfound) × (copy : Result ClubDisk Unfound) × ChecksFound disk copy output ended

-- what the disk in a file holds, or what the disks in two hold where another is named
abbrev pub RunsCheck : Option (Bor (List ℕ)) → Stream → Stream → Ended → Type 0
RunsCheck None input output ended = HasWorked input output ended work.Check
RunsCheck (Some copy) input output ended = HasCheckedTwo output ended × IsUntouched input
