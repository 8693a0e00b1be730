-- A session opened on two disks.
use Rattle.std.specs.Prelude.{◌≡◌, ◌≢◌, ◌⊎◌, ◌↔◌, ◌<◌, ℕ, nat_lt, Bool, true, false, MatchBool, [], length, slice_get, Option, Some, None}
use Rattle.sector_disk.specs.Disk.{Disk}
use Rattle.sector_disk.specs.Runs.{Quiet}
use Rattle.session_store.specs.Looking.{IsSeen}
use Rattle.session_store.specs.PairOpening.{IsPairOpened}
use Rattle.session_store.specs.Stands.{header_in}
use Rattle.session_store.specs.Value.{StoreValue}
use Rattle.session_store.specs.declared.disk_format.DiskFormat.{DiskFormat}
use Rattle.session_store.specs.declared.fault.StoreFault.TheVariants.{NoMemory}
use Rattle.session_rules.specs.declared.action.Action.{Action}
use Rattle.session_rules.specs.State.{SessionValue}
use Rattle.bridge_movement.specs.declared.row.Row.{Row}
use Rattle.bridge_session.specs.HasAll.{HasAllOf, HasRowOf}
use Rattle.bridge_session.specs.SessionKeeping.{session_keeping}
use Rattle.session_pair.specs.Choosing.{ComesFirst}
use Rattle.session_pair.specs.declared.joining.Judged.{Judged}
use Rattle.session_pair.specs.declared.joining.JoinFault.{JoinFault}
use Rattle.session_pair.specs.declared.joining.JoinFault.TheVariants.{Disk as NoDisk, Copy as NoCopy, OtherSession, OtherPlays}

-- a session of a greater epoch has all that another has
abbrev pub IsAbove : SessionValue → ℕ → SessionValue → ℕ → Type 0
IsAbove s epoch t other_epoch = (other_epoch < epoch) × HasAllOf s t

-- both are of one epoch, in which each has all that was told while both were kept, or that of the greater one has all that the
-- other has
abbrev pub MayFollow : SessionValue → ℕ → SessionValue → ℕ → Type 0
MayFollow s epoch t other_epoch =
    (epoch ≡ other_epoch) ⊎ (IsAbove s epoch t other_epoch ⊎ IsAbove t other_epoch s epoch)

-- both disks hold the same, or they are of one configuration and the one may follow the other
abbrev pub MayJoin : SessionValue → ℕ → SessionValue → ℕ → Type 0
MayJoin s epoch t other_epoch =
    (s ≡ t) ⊎ ((s.configuration ≡ t.configuration) × MayFollow s epoch t other_epoch)

-- how disks stand to each other that hold these sessions, of these epochs and with so many records
pub record IsJudged (s : SessionValue) (epoch records : ℕ) (t : SessionValue) (other_epoch other_records : ℕ) (judged : Judged) : Type 0 where
  pub may : MayJoin s epoch t other_epoch
  pub first : (judged.disk_first ≡ true) ↔ ComesFirst epoch records other_epoch other_records
  pub level : (judged.was_level ≡ true) ↔ (s ≡ t)

-- of the plays of so many rows, the first ones, nothing is missing
abbrev pub HasRowsOf : SessionValue → SessionValue → ℕ → Type 0
HasRowsOf s t count = (index : ℕ) → index < count → HasRowOf s t index

-- that row is the first of whose plays something is missing that the other has; or of no row's anything is
abbrev pub IsLacking : SessionValue → SessionValue → Option Row → Type 0
IsLacking s t (Some row) = (index : ℕ) × (slice_get s.configuration.movement.rows index ≡ Some row) × ¬ (HasRowOf s t index)
    × HasRowsOf s t index
IsLacking s t None = HasRowsOf s t (length s.configuration.movement.rows)

-- in the session of the greater epoch
abbrev pub IsLackingInGreater : SessionValue → ℕ → SessionValue → ℕ → Option Row → Type 0
IsLackingInGreater s epoch t other_epoch row = MatchBool (nat_lt other_epoch epoch) (IsLacking s t row) (IsLacking t s row)

-- why they are not joined
abbrev pub IsUnjudged : SessionValue → ℕ → SessionValue → ℕ → JoinFault → Type 0
IsUnjudged s epoch t other_epoch OtherSession = s.configuration ≢ t.configuration
IsUnjudged s epoch t other_epoch (OtherPlays row) = (s.configuration ≡ t.configuration) × ¬ (MayFollow s epoch t other_epoch) × (s ≢ t)
    × IsLackingInGreater s epoch t other_epoch row
IsUnjudged s epoch t other_epoch (NoDisk fault) = (fault ≡ NoMemory) × (s ≢ t)
IsUnjudged s epoch t other_epoch (NoCopy fault) = ⊥

-- both stores work, and nothing is pending in either
abbrev pub IsOne : {D E : Type 0} → StoreValue D SessionValue Action → StoreValue E SessionValue Action → Type 0
IsOne v w = (v.failed ≡ false) × (w.failed ≡ false) × (v.pending ≡ []) × (w.pending ≡ [])

module _ {D : Type 0} (disk : Disk D) where
  -- both disks were read, and left so, and stand so to each other
  pub record SeesBoth (d e d' e' : D) (judged : Judged) : Type 0 where
    pub s : SessionValue
    pub format : DiskFormat
    pub epoch : ℕ
    pub sector : ℕ
    pub records : ℕ
    pub seen : IsSeen session_keeping disk header_in d d' s format epoch sector records
    pub quiet : Quiet disk d d'
    pub t : SessionValue
    pub other_format : DiskFormat
    pub other_epoch : ℕ
    pub other_sector : ℕ
    pub other_records : ℕ
    pub other_seen : IsSeen session_keeping disk header_in e e' t other_format other_epoch other_sector other_records
    pub other_quiet : Quiet disk e e'
    pub judged_so : IsJudged s epoch records t other_epoch other_records judged

  -- by whether the disk was taken first, or the copy
  abbrev pub OpensInOrder : Bool → D → D → StoreValue D SessionValue Action → StoreValue D SessionValue Action → Type 0
  OpensInOrder true d e v w = IsPairOpened session_keeping disk disk d e v w
  OpensInOrder false d e v w = IsPairOpened session_keeping disk disk e d v w

  -- Both disks were read, and found to hold one session; and then it was opened on both, on the one that comes first and then
  -- on the other.
  pub record HasJoined (d e : D) (judged : Judged) (v w : StoreValue D SessionValue Action) : Type 0 where
    pub read : D
    pub other_read : D
    pub sees : SeesBoth d e read other_read judged
    pub opened : OpensInOrder judged.disk_first read other_read v w
    pub works : IsOne v w
