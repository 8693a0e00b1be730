-- Runs: what stores, their disks and power cuts make of the actions that were accepted.
use Rattle.std.specs.Prelude.{◌≡◌, ◌≤◌, ◌+◌, ℕ, List, [], ◌∷◌, ◌++◌, length, take, Some, Ok}
use Rattle.sector_disk.specs.Disk.{Image, IsSame, Disk}
use Rattle.session_store.specs.Layout.{sector_count}
use Rattle.session_store.specs.Keeping.{Keeping, fold}
use Rattle.session_store.specs.Stands.{recovered, IsInOrder}
use Rattle.session_store.specs.Former.{IsFormer, WasInOrder, formerly}
use Rattle.session_store.specs.Sound.{IsSoundDisk, StandsOnlyFor}
use Rattle.session_store.specs.Opening.{IsOpened, IsNotOpened}
use Rattle.session_store.specs.Value.{StoreValue}
use Rattle.session_store.specs.Store.{Continues}

-- where a run stands: at a disk that no store has, or at a store
pub data Place (D S A : Type 0) : Type 0 where
  AtRest : D → Place D S A
  AtWork : StoreValue D S A → Place D S A

-- what is done there: a call of the store, which accepts these actions, none or one, and leaves this store, whatever it
-- answers; nothing; the disk is taken out of the store; opening, which leaves this store, or fails and leaves this disk
pub data Doing (D S A : Type 0) : Type 0 where
  Calls : List A → StoreValue D S A → Doing D S A
  Waits : Doing D S A
  Closes : Doing D S A
  Opens : StoreValue D S A → Doing D S A
  Fails : D → Doing D S A

-- what happens: something is done, or power is cut while it is done, which leaves this image on this disk
pub data Event (D S A : Type 0) : Type 0 where
  Done : Doing D S A → Event D S A
  Cut : Doing D S A → Image → D → Event D S A

-- where a run stands, the actions accepted so far, and how many of the first of them are confirmed
pub record RunStanding (D S A : Type 0) : Type 0 where
  pub place : Place D S A
  pub accepted : List A
  pub confirmed : ℕ

-- the actions that are accepted in what is done
abbrev pub accepts : {D S A : Type 0} → Doing D S A → List A
accepts (Calls actions _) = actions
accepts Waits = []
accepts Closes = []
accepts (Opens _) = []
accepts (Fails _) = []

module _ {D S A R : Type 0} (kept : Keeping S A R) (disk : Disk D) where
  -- the image stands for what some of the first of these actions make of the starting state, at least so many of them
  pub record StandsForAtLeast (start : S) (accepted : List A) (confirmed : ℕ) (image : Image) : Type 0 where
    pub count : ℕ
    pub enough : confirmed ≤ count
    pub few : count ≤ length accepted
    pub state : S
    pub made : fold kept start (take count accepted) ≡ Some state
    pub stands : recovered kept image ≡ Ok state
    pub in_order : IsInOrder image

  -- a disk at rest, of either format, at which a run may begin: these actions were accepted from the starting state on, and so
  -- many of them are confirmed
  pub record IsBeginning (start : S) (accepted : List A) (confirmed : ℕ) (d : D) : Type 0 where
    pub honest : disk.honest d
    pub large : sector_count ≤ disk.count d
    pub images : (c : Image) → disk.may_leave d c → StandsForAtLeast start accepted confirmed c

  -- these are the most of the first actions whose state the image stands for
  pub record IsLongest (start : S) (accepted : List A) (image : Image) (count : ℕ) : Type 0 where
    pub few : count ≤ length accepted
    pub state : S
    pub made : fold kept start (take count accepted) ≡ Some state
    pub stands : recovered kept image ≡ Ok state
    pub longest : (n : ℕ) (t : S) → n ≤ length accepted → fold kept start (take n accepted) ≡ Some t
        → recovered kept image ≡ Ok t → n ≤ count

  -- A call that confirms leaves unconfirmed what is pending; opening confirms what the disk reads, and the rest is lost.
  abbrev pub Does : S → Place D S A → List A → ℕ → Doing D S A → RunStanding D S A → Type 0
  Does start (AtWork v) accepted confirmed (Calls actions w) t = Continues kept disk v actions w
      × (t.place ≡ AtWork w) × (t.accepted ≡ accepted ++ actions) × (t.confirmed + length w.pending ≡ length t.accepted)
  Does start (AtWork v) accepted confirmed Waits t =
      (t.place ≡ AtWork v) × (t.accepted ≡ accepted) × (t.confirmed ≡ confirmed)
  Does start (AtWork v) accepted confirmed Closes t =
      (t.place ≡ AtRest v.disk) × (t.accepted ≡ accepted) × (t.confirmed ≡ confirmed)
  Does start (AtWork v) accepted confirmed (Opens _) t = ⊥
  Does start (AtWork v) accepted confirmed (Fails _) t = ⊥
  Does start (AtRest d) accepted confirmed (Opens w) t = IsOpened kept disk d w × IsLongest start accepted (disk.reads d) t.confirmed
      × (t.place ≡ AtWork w) × (t.accepted ≡ take t.confirmed accepted)
  Does start (AtRest d) accepted confirmed (Fails e) t = IsNotOpened kept disk d e
      × (t.place ≡ AtRest e) × (t.accepted ≡ accepted) × (t.confirmed ≡ confirmed)
  Does start (AtRest d) accepted confirmed Waits t =
      (t.place ≡ AtRest d) × (t.accepted ≡ accepted) × (t.confirmed ≡ confirmed)
  Does start (AtRest d) accepted confirmed (Calls _ _) t = ⊥
  Does start (AtRest d) accepted confirmed Closes t = ⊥

  -- what a power cut at some moment of it might leave
  abbrev pub MayLeave : Place D S A → Doing D S A → Image → Type 0
  MayLeave (AtWork v) (Calls _ w) c = disk.left_since w.disk (disk.moment v.disk) c
  MayLeave (AtWork v) Waits c = disk.may_leave v.disk c
  MayLeave (AtWork v) Closes c = disk.may_leave v.disk c
  MayLeave (AtWork v) (Opens _) c = ⊥
  MayLeave (AtWork v) (Fails _) c = ⊥
  MayLeave (AtRest d) (Opens w) c = disk.left_since w.disk (disk.moment d) c
  MayLeave (AtRest d) (Fails e) c = disk.left_since e (disk.moment d) c
  MayLeave (AtRest d) Waits c = disk.may_leave d c
  MayLeave (AtRest d) (Calls _ _) c = ⊥
  MayLeave (AtRest d) Closes c = ⊥

  -- after a power cut the disk holds this image alone
  pub record HoldsOnly (image : Image) (d : D) : Type 0 where
    pub honest : disk.honest d
    pub large : sector_count ≤ disk.count d
    pub only : (c : Image) → disk.may_leave d c → IsSame c image

  -- a power cut leaves the longest of the first actions that its image stands for
  abbrev pub IsCut : S → RunStanding D S A → Doing D S A → Image → D → RunStanding D S A → Type 0
  IsCut start s x image d t = ((n : ℕ) × IsLongest start (s.accepted ++ accepts x) image n × (t.accepted ≡ take n (s.accepted ++ accepts x)))
      × MayLeave s.place x image × HoldsOnly image d × (t.place ≡ AtRest d) × (t.confirmed ≡ s.confirmed)

  -- an event: something is done, or power is cut while it might have been done
  abbrev pub Happens : S → RunStanding D S A → Event D S A → RunStanding D S A → Type 0
  Happens start s (Done x) t = Does start s.place s.accepted s.confirmed x t
  Happens start s (Cut x image d) t =
      ((m : RunStanding D S A) × Does start s.place s.accepted s.confirmed x m) × IsCut start s x image d t

  -- these events lead from one standing to another
  unfoldable pub Runs : S → RunStanding D S A → List (Event D S A) → RunStanding D S A → Type 0
  Runs start s [] t = s ≡ t
  Runs start s (e ∷ events) t = (m : RunStanding D S A) × Happens start s e m × Runs start m events t

  -- After any events, at every moment of what is done next, a power cut leaves an image that stands for what some of the
  -- first accepted actions make of the starting state, with all that are confirmed.
  abbrev pub CrashLaw : Type 0
  CrashLaw = (start : S) (accepted : List A) (confirmed : ℕ) (d : D) → IsBeginning start accepted confirmed d
      → (events : List (Event D S A)) (s : RunStanding D S A)
      → Runs start (record { place = AtRest d; accepted = accepted; confirmed = confirmed }) events s
      → (x : Doing D S A) (t : RunStanding D S A) → Does start s.place s.accepted s.confirmed x t
      → (c : Image) → MayLeave s.place x c → StandsForAtLeast start (s.accepted ++ accepts x) s.confirmed c

  -- a disk that was formatted with a state is a beginning: no action was accepted
  abbrev pub FormattedLaw : Type 0
  FormattedLaw = (start : S) (d : D) → IsSoundDisk kept disk d → StandsOnlyFor kept disk start d → IsBeginning start [] 0 d

  -- for a store that knew the first format alone: the image stood for what some of the first of these actions make of the
  -- starting state, at least so many of them
  pub record StoodForAtLeast (start : S) (accepted : List A) (confirmed : ℕ) (image : Image) : Type 0 where
    pub former : IsFormer image
    pub count : ℕ
    pub enough : confirmed ≤ count
    pub few : count ≤ length accepted
    pub state : S
    pub made : fold kept start (take count accepted) ≡ Some state
    pub stood : formerly kept image ≡ Ok state
    pub in_order : WasInOrder image

  -- a disk that a store of the first format left, after any run of its own, is one
  abbrev pub FormerRunLaw : Type 0
  FormerRunLaw = (start : S) (accepted : List A) (confirmed : ℕ) (d : D) → disk.honest d → sector_count ≤ disk.count d
      → ((c : Image) → disk.may_leave d c → StoodForAtLeast start accepted confirmed c) → IsBeginning start accepted confirmed d
