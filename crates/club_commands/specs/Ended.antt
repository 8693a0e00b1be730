-- How a command ends: what stands on its output then, and the line on standard error and the exit status that a fault has.
use Rattle.std.specs.Prelude.{◌≡◌, ◌⊎◌, ◌++◌, ℕ, true, false, List, codes, Option, Some, None, Result, Err, IfErr, IsErrAnd}
use Rattle.club_commands.specs.Basis.{Stream, Takes, TakesPrefix, Written, IsUntouched, Disk, Rose, StoreOn, decimal, StoreFault, TooSmall, DiskFault, NotFormatted, Damaged, EpochsSpent, NoMemory, ServeFault, Read, Write, RunFault, StreamFault, System, Config, Store}
use Rattle.club_commands.specs.declared.fault.RunFault.TheVariants.{Evening, Makeable, Joining, Lost, Section, Field}
use Rattle.club_commands.specs.declared.fault.OtherSection.{OtherSection}
use Rattle.event_ranking.specs.EventText.{section_text}
use Rattle.event_ranking.specs.declared.field.Difference.{Difference}
use Rattle.event_ranking.specs.declared.field.Difference.TheVariants as difference
use Rattle.club_commands.specs.declared.fault.LostDisk.{LostDisk}
use Rattle.club_commands.specs.declared.fault.LostDisk.TheVariants as lost
use Rattle.bridge_movement.specs.declared.row.Row.{Row}
use Rattle.session_pair.specs.declared.joining.JoinFault.{JoinFault}
use Rattle.session_pair.specs.declared.joining.JoinFault.TheVariants as join
use Rattle.evening_commands.specs.Fault.{config_line, evening_line}
use Rattle.makeable_deals.specs.FaultLine.{makeable_line}

-- how a command ended
abbrev pub Ended : Type 0
Ended = Result (Unit {0}) RunFault

-- a text is written, or a prefix of it where a write failed, which is the fault
abbrev pub Writes : Stream → List ℕ → Ended → Type 0
Writes output text ended = Written output text ended × IfErr ended (λ fault. fault ≡ StreamFault Write)

-- a text is written, and that is the fault; or a prefix of it, as a write failed, which is the fault then
abbrev pub WritesAndStops : Stream → List ℕ → RunFault → Ended → Type 0
WritesAndStops output text cause ended =
    IsErrAnd ended (λ fault. (Takes output text × (fault ≡ cause)) ⊎ (TakesPrefix output text × (fault ≡ StreamFault Write)))

-- a disk gave nothing, for such a cause, and nothing is written
abbrev pub IsRefusedFor : (StoreFault → Type 0) → Stream → Ended → Type 0
IsRefusedFor Why output ended = (cause : StoreFault) × Why cause × (ended ≡ Err (Store cause)) × IsUntouched output

-- How a run over a store ended: in such a way, and then the store works, as no call of its disk failed; or the store failed,
-- as a call of its disk did, which is the fault.
abbrev pub EndsOver : {D : Type 0} → Disk D → (Ended → Type 0) → StoreOn D → StoreOn D → Ended → Type 0
EndsOver disk Way start store ended =
    ((store.failed ≡ false) × (disk.faults store.disk ≡ disk.faults start.disk) × Way ended)
    ⊎ ((store.failed ≡ true) × Rose (disk.faults start.disk) (disk.faults store.disk) × (ended ≡ Err (Store DiskFault)))

-- the line of a stream that failed; a connection that could not be accepted counts as one that could not be read
abbrev pub stream_line : ServeFault → List ℕ
stream_line Write = codes "cannot write output\n"
stream_line _ = codes "cannot read input\n"

-- the line of a disk or a store
abbrev pub store_line : StoreFault → List ℕ
store_line TooSmall = codes "disk too small\n"
store_line DiskFault = codes "disk fault\n"
store_line NotFormatted = codes "not formatted\n"
store_line (Damaged sector) = (codes "damaged sector " ++ decimal sector) ++ codes "\n"
store_line EpochsSpent = codes "epochs spent\n"
store_line NoMemory = codes "no memory\n"

-- the line of a copy that gives no session
abbrev pub copy_line : StoreFault → List ℕ
copy_line TooSmall = codes "copy: disk too small\n"
copy_line DiskFault = codes "copy: disk fault\n"
copy_line NotFormatted = codes "copy: not formatted\n"
copy_line (Damaged sector) = (codes "copy: damaged sector " ++ decimal sector) ++ codes "\n"
copy_line EpochsSpent = codes "copy: epochs spent\n"
copy_line NoMemory = codes "copy: no memory\n"

-- the line where the session of the greater epoch lacks something of the other, and of whose plays
abbrev pub other_plays_line : Option Row → List ℕ
other_plays_line None = codes "copy: different plays\n"
other_plays_line (Some row) = (((codes "copy: different plays, round " ++ decimal row.round) ++ codes " table ") ++ decimal row.table) ++ codes "\n"

-- the line where a session was not opened on two disks
abbrev pub join_line : JoinFault → List ℕ
join_line (join.Disk fault) = store_line fault
join_line (join.Copy fault) = copy_line fault
join_line join.OtherSession = codes "copy: another session\n"
join_line (join.OtherPlays row) = other_plays_line row

-- the line where one of two disks was lost
abbrev pub lost_line : LostDisk → List ℕ
lost_line lost.Disk = codes "disk lost\n"
lost_line lost.Copy = codes "copy lost\n"

-- what stands before that which is said of a section
abbrev pub section_words : ℕ → List ℕ
section_words section = (codes "section " ++ section_text section) ++ codes ": "

-- in what a section differs from an earlier one
abbrev pub difference_words : Difference → List ℕ
difference_words difference.Scoring = codes "other scoring"
difference_words difference.Boards = codes "other boards a set"
difference_words (difference.Deal board) = codes "other deal of board " ++ decimal board

-- the line where a section is not of one field with an earlier one
abbrev pub other_section_line : OtherSection → List ℕ
other_section_line other =
    (((section_words other.section ++ difference_words other.difference) ++ codes " than ") ++ section_text other.earlier) ++ codes "\n"

-- the line on standard error that names a fault; what the system does not give counts as what cannot be read
abbrev pub fault_line : RunFault → List ℕ
fault_line (StreamFault fault) = stream_line fault
fault_line (System fault) = stream_line Read
fault_line (Config fault) = config_line fault
fault_line (Evening fault) = evening_line fault
fault_line (Makeable fault) = makeable_line fault
fault_line (Store fault) = store_line fault
fault_line (Joining fault) = join_line fault
fault_line (Lost disk) = lost_line disk
fault_line (Section section fault) = section_words section ++ store_line fault
fault_line (Field other) = other_section_line other

-- the exit status where a disk is refused or has failed: 4 where it holds no session, and 3 otherwise
abbrev pub store_status : StoreFault → ℕ
store_status TooSmall = 4
store_status NotFormatted = 4
store_status (Damaged sector) = 4
store_status _ = 3

-- the same where a session was not opened on two disks: a copy that holds none is no more than a fault
abbrev pub join_status : JoinFault → ℕ
join_status (join.Disk fault) = store_status fault
join_status _ = 3

-- the exit status at a fault: 4 where the disk holds no session, and 3 otherwise
abbrev pub fault_status : RunFault → ℕ
fault_status (Store fault) = store_status fault
fault_status (Joining fault) = join_status fault
fault_status (Section section fault) = store_status fault
fault_status _ = 3
