-- What may be told of a pair of stores.
use Rattle.std.specs.Prelude.{◌≡◌, ◌≢◌, ◌⊎◌, Bool, true, false, List, []}
use Rattle.sector_disk.specs.Disk.{Disk}
use Rattle.session_store.specs.Keeping.{Keeping}
use Rattle.session_store.specs.Value.{StoreValue}
use Rattle.session_store.specs.Store.{Continues}
use Rattle.session_store.specs.Pair.{IsToldPair}
use Rattle.session_store.specs.Settling.{CannotSettle}
use Rattle.session_store.specs.declared.fault.CheckpointFault.{CheckpointFault}

-- of two sides, the second's where a call of the first's disk has failed, and else the first's
abbrev pub of_side : {P : Type 0} → Bool → P → P → P
of_side true first second = second
of_side false first second = first

-- the state that is shown of a pair: that of a side that works
abbrev pub shown_of : {D E S A : Type 0} → StoreValue D S A → StoreValue E S A → S
shown_of v w = of_side v.failed v.state w.state

-- nothing is pending in a store that works
abbrev pub HasConfirmed : {D S A : Type 0} → StoreValue D S A → Type 0
HasConfirmed v = v.failed ≡ false → v.pending ≡ []

module _ {D E S A R : Type 0} (kept : Keeping S A R) (first : Disk D) (second : Disk E) where
  -- of a pair of which some state might be told, both stores were served and have confirmed all, and it stands so then
  pub record WereServed (v : StoreValue D S A) (w : StoreValue E S A) (v' : StoreValue D S A) (w' : StoreValue E S A) : Type 0 where
    pub state : S
    pub told : IsToldPair kept first second v w state
    pub accepted : List A
    pub first_served : Continues kept first v accepted v'
    pub accepted_second : List A
    pub second_served : Continues kept second w accepted_second w'
    pub first_confirmed : HasConfirmed v'
    pub second_confirmed : HasConfirmed w'

  -- if so it is answered of stores that were served, the state that is shown of them then may be told
  abbrev pub MayTell : StoreValue D S A → StoreValue E S A → Bool → StoreValue D S A → StoreValue E S A → Type 0
  MayTell v' w' may last other = (v : StoreValue D S A) (w : StoreValue E S A) → WereServed v w v' w' → may ≡ true
      → IsToldPair kept first second last other (shown_of last other)

-- of stores, as they were served and as they are settled then, one works, the first is lost where it was, and what is shown is the
-- same
pub record StaysShown {D E S A : Type 0} (v : StoreValue D S A) (w : StoreValue E S A) (v' : StoreValue D S A) (w' : StoreValue E S A) : Type 0 where
  pub works : (v'.failed ≡ false) ⊎ (w'.failed ≡ false)
  pub lost : v'.failed ≡ v.failed
  pub state : shown_of v' w' ≡ shown_of v w

-- both stores work, and have not the same state
abbrev pub AreApart : {D E S A : Type 0} → StoreValue D S A → StoreValue E S A → Type 0
AreApart v w = (v.failed ≡ false) × (w.failed ≡ false) × (v.state ≢ w.state)

-- why nothing may be told of stores, as they were served and as they are then: both work, and have not the same state; or the
-- pair cannot be settled
abbrev pub CannotTell : {D E S A : Type 0} → Disk D → Disk E → StoreValue D S A → StoreValue E S A → StoreValue D S A
    → StoreValue E S A → Type 0
CannotTell first second v w v' w' = AreApart v w ⊎ ((fault : CheckpointFault) × CannotSettle first second v w v' w' fault)

-- nothing stays pending in a store that works
abbrev pub StaysConfirmed : {D S A : Type 0} → StoreValue D S A → StoreValue D S A → Type 0
StaysConfirmed v last = HasConfirmed v → HasConfirmed last
