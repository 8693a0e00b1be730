-- Why no session was opened on two disks.
use Rattle.std.specs.Prelude.{◌≡◌, ◌⊎◌, ◌<◌, Bool, true, false, not, None}
use Rattle.sector_disk.specs.Disk.{Disk}
use Rattle.sector_disk.specs.Runs.{Quiet}
use Rattle.session_store.specs.Layout.{sector_count}
use Rattle.session_store.specs.Looking.{IsSeen, IsUnseen}
use Rattle.session_store.specs.PairOpening.{IsPairOpened, IsPairRefused}
use Rattle.session_store.specs.Stands.{header_in}
use Rattle.session_store.specs.Value.{StoreValue}
use Rattle.session_store.specs.declared.fault.PairFault.{PairFault}
use Rattle.session_store.specs.declared.fault.PairFault.TheVariants.{First, Second, SecondNewer}
use Rattle.session_store.specs.declared.fault.StoreFault.{StoreFault}
use Rattle.session_store.specs.declared.fault.StoreFault.TheVariants.{Disk as DiskFailed, TooSmall}
use Rattle.session_store.specs.declared.looking.Reading.{Reading}
use Rattle.session_rules.specs.declared.action.Action.{Action}
use Rattle.session_rules.specs.declared.refused.Refused.{Refused}
use Rattle.session_rules.specs.State.{SessionValue}
use Rattle.bridge_session.specs.SessionKeeping.{session_keeping}
use Rattle.session_pair.specs.Joining.{IsUnjudged, SeesBoth}
use Rattle.session_pair.specs.declared.joining.Judged.{Judged}
use Rattle.session_pair.specs.declared.joining.JoinFault.{JoinFault}
use Rattle.session_pair.specs.declared.joining.JoinFault.TheVariants.{Disk as NoDisk, Copy as NoCopy, OtherPlays}

-- a fault of the disk, or of the copy
abbrev pub side_fault : Bool → StoreFault → JoinFault
side_fault true fault = NoDisk fault
side_fault false fault = NoCopy fault

-- why a pair was not opened, of which the disk was the first, or the copy
abbrev pub pair_fault : Bool → PairFault → JoinFault
pair_fault disk_first (First fault) = side_fault disk_first fault
pair_fault disk_first (Second fault) = side_fault (not disk_first) fault
pair_fault disk_first SecondNewer = OtherPlays None

-- these are the first and the second of a pair, the disk and the copy, in that order or the other
abbrev pub AreInOrder : {D : Type 0} → Bool → D → D → D → D → Type 0
AreInOrder true first second disk copy = (disk ≡ first) × (copy ≡ second)
AreInOrder false first second disk copy = (disk ≡ second) × (copy ≡ first)

-- what was read of a disk
abbrev pub Held : Type 0
Held = Reading SessionValue Action Refused

module _ {D : Type 0} (disk : Disk D) where
  -- that was read of a disk, and reading left it so
  abbrev pub IsHeld : D → D → Held → Type 0
  IsHeld d d' found = Quiet disk d d'
      × IsSeen session_keeping disk header_in d d' found.state found.format found.epoch found.sector found.records

  -- reading a disk left it so and gave no session: it has too few sectors, or none is seen there
  abbrev pub IsUnread : D → D → StoreFault → Type 0
  IsUnread d d' cause = Quiet disk d d'
      × (((disk.count d < sector_count) × (cause ≡ TooSmall)) ⊎ IsUnseen session_keeping disk header_in d d' cause)

  -- how two disks stand was not found: the disk gave no session, or it did and the copy gave none, or both did and are not joined
  abbrev pub CannotJudge : D → D → D → D → JoinFault → Type 0
  CannotJudge d e d' e' fault = ((cause : StoreFault) × (fault ≡ NoDisk cause) × IsUnread d d' cause)
      ⊎ (((cause : StoreFault) × (ours : Held) × (fault ≡ NoCopy cause) × IsHeld d d' ours × IsUnread e e' cause)
      ⊎ ((ours : Held) × (theirs : Held) × IsHeld d d' ours × IsHeld e e' theirs
      × IsUnjudged ours.state ours.epoch theirs.state theirs.epoch fault))

  -- a pair of disks was not opened, and both came back; or it was, the second was lost in that, which is the fault, and both came
  -- back from their stores
  abbrev pub IsNotOpened : D → D → D → D → PairFault → Type 0
  IsNotOpened d e d' e' fault = IsPairRefused session_keeping disk disk d e d' e' fault
      ⊎ ((v : StoreValue D SessionValue Action) × (w : StoreValue D SessionValue Action) × (fault ≡ Second DiskFailed)
      × IsPairOpened session_keeping disk disk d e v w × (w.failed ≡ true) × (d' ≡ v.disk) × (e' ≡ w.disk))

  -- the same, where the first of them was the disk, or the copy, and the disk and the copy came back so
  abbrev pub IsUnopened : Bool → D → D → D → D → JoinFault → Type 0
  IsUnopened true d e d' e' fault = (cause : PairFault) × (fault ≡ pair_fault true cause) × IsNotOpened d e d' e' cause
  IsUnopened false d e d' e' fault = (cause : PairFault) × (fault ≡ pair_fault false cause) × IsNotOpened d e e' d' cause

  -- the same of a disk and a copy, of which the disk was taken first, or the copy
  abbrev pub IsUnopenedInOrder : Bool → D → D → D → D → JoinFault → Type 0
  IsUnopenedInOrder true d e d' e' fault = IsUnopened true d e d' e' fault
  IsUnopenedInOrder false d e d' e' fault = IsUnopened false e d d' e' fault

  -- two disks were only read, and how they stand was not found
  abbrev pub IsUnjoinedUnwritten : D → D → D → D → JoinFault → Type 0
  IsUnjoinedUnwritten d e d' e' fault = CannotJudge d e d' e' fault × Quiet disk d d' × Quiet disk e e'

  -- two disks were read, and how they stand was found, but they could not be opened so
  abbrev pub CannotOpen : D → D → D → D → JoinFault → Type 0
  CannotOpen d e d' e' fault = (read : D) × (other_read : D) × (judged : Judged) × SeesBoth disk d e read other_read judged
      × IsUnopenedInOrder judged.disk_first read other_read d' e' fault

  -- Why no session was opened on two disks, which came back: how they stand was not found, or they could not be opened so.
  abbrev pub IsNotJoined : D → D → D → D → JoinFault → Type 0
  IsNotJoined d e d' e' fault = IsUnjoinedUnwritten d e d' e' fault ⊎ CannotOpen d e d' e' fault
