-- Two disks of one state, kept in step: what holds of their two stores, and which image of the two is taken.
use Rattle.std.specs.Prelude.{◌≡◌, ◌⊎◌, ◌≤◌, ◌+◌, List, [], Bool, true, false, Option, Some, None, Ok}
use Rattle.sector_disk.specs.Disk.{Image, Disk}
use Rattle.session_store.specs.Keeping.{Keeping}
use Rattle.session_store.specs.Epochs.{epoch_in}
use Rattle.session_store.specs.Stands.{recovered}
use Rattle.session_store.specs.Base.{StandsForPrefix}
use Rattle.session_store.specs.Sound.{IsSoundDisk, StandsOnlyFor}
use Rattle.session_store.specs.Value.{StoreValue, IsStore}
use Rattle.session_store.specs.Store.{IsSoundStore, Continues}
use Rattle.session_store.specs.declared.standing.PairStanding.{PairStanding}
use Rattle.session_store.specs.declared.standing.PairStanding.TheVariants.{Level, FirstLost, SecondLost}

-- how a pair stands, by whether a call of the first disk has failed, and one of the second; where both have, there is no pair
abbrev pub standing_of : Bool → Bool → Option PairStanding
standing_of false false = Some Level
standing_of true false = Some FirstLost
standing_of false true = Some SecondLost
standing_of true true = None

-- one of two images, and of no lower epoch than the other
abbrev pub IsChosen : Image → Image → Image → Type 0
IsChosen a b c = ((c ≡ a) × (epoch_in b ≤ epoch_in a)) ⊎ ((c ≡ b) × (epoch_in a ≤ epoch_in b))

module _ {D S A R : Type 0} (kept : Keeping S A R) (disk : Disk D) where
  -- A side of a pair of this state. Where no call of its disk failed, its store is sound and has the state; where one did, a
  -- power cut leaves no image of an epoch beyond the store's next.
  pub record IsSide (v : StoreValue D S A) (s : S) : Type 0 where
    pub honest : disk.honest v.disk
    pub sound : v.failed ≡ false → IsSoundStore kept disk v
    pub state : v.failed ≡ false → v.state ≡ s
    pub within : v.failed ≡ true → (c : Image) → disk.may_leave v.disk c → epoch_in c ≤ v.epoch + 1

module _ {D E S A R : Type 0} (kept : Keeping S A R) (first : Disk D) (second : Disk E) where
  -- the stores are in step: each that works has this state
  pub record IsInStep (v : StoreValue D S A) (w : StoreValue E S A) (s : S) : Type 0 where
    pub first_side : IsSide kept first v s
    pub second_side : IsSide kept second w s

  -- and has confirmed all of it
  pub record IsServedPair (v : StoreValue D S A) (w : StoreValue E S A) (s : S) : Type 0 where
    pub in_step : IsInStep v w s
    pub first_none : v.failed ≡ false → v.pending ≡ []
    pub second_none : w.failed ≡ false → w.pending ≡ []

  -- A pair of which this state may be told: each disk that is still kept has it confirmed, and where the other was lost, that
  -- one's epoch is two below.
  pub record IsToldPair (v : StoreValue D S A) (w : StoreValue E S A) (s : S) : Type 0 where
    pub served : IsServedPair v w s
    pub first_behind : v.failed ≡ true → w.failed ≡ false → v.epoch + 2 ≤ w.epoch
    pub second_behind : w.failed ≡ true → v.failed ≡ false → w.epoch + 2 ≤ v.epoch

  -- one of the disks is still kept
  abbrev pub OneWorks : StoreValue D S A → StoreValue E S A → Type 0
  OneWorks v w = (v.failed ≡ false) ⊎ (w.failed ≡ false)

  -- Calls of either store from a told pair on, which go on independently of each other: at any moment of the one and any moment
  -- of the other, the image that is chosen of the two that power cuts leave stands for what was told, with a prefix of what one
  -- store accepted since.
  abbrev pub MomentLaw : Type 0
  MomentLaw = (v v' : StoreValue D S A) (w w' : StoreValue E S A) (s : S) (xs ys : List A)
      → IsStore kept first v → IsStore kept second w → IsToldPair v w s → OneWorks v w
      → Continues kept first v xs v' → Continues kept second w ys w' → (a b c : Image)
      → first.left_since v'.disk (first.moment v.disk) a → second.left_since w'.disk (second.moment w.disk) b → IsChosen a b c
      → StandsForPrefix kept s xs c ⊎ StandsForPrefix kept s ys c

  -- So at a told pair the image that is chosen of the two stands for exactly what was told.
  abbrev pub ToldLaw : Type 0
  ToldLaw = (v : StoreValue D S A) (w : StoreValue E S A) (s : S)
      → IsStore kept first v → IsStore kept second w → IsToldPair v w s → OneWorks v w
      → (a b c : Image) → first.may_leave v.disk a → second.may_leave w.disk b → IsChosen a b c → recovered kept c ≡ Ok s

  -- Calls of either store from a told pair on, after which each that works has the same state and nothing pending, leave a
  -- pair that was served; and one in step, where something is pending.
  abbrev pub ServedLaw : Type 0
  ServedLaw = (v v' : StoreValue D S A) (w w' : StoreValue E S A) (s t : S) (xs ys : List A) → IsInStep v w s
      → Continues kept first v xs v' → Continues kept second w ys w'
      → (v'.failed ≡ false → v'.state ≡ t) → (w'.failed ≡ false → w'.state ≡ t)
      → IsInStep v' w' t
      × ((v'.failed ≡ false → v'.pending ≡ []) → (w'.failed ≡ false → w'.pending ≡ []) → IsServedPair v' w' t)

  -- Each disk alone is an ordinary one. After any calls from a pair in step on, also where they failed, a disk that was still
  -- kept is sound, so that it opens alone; and at a told pair, each disk that is still kept stands for what was told.
  abbrev pub AloneLaw : Type 0
  AloneLaw = (v v' : StoreValue D S A) (w w' : StoreValue E S A) (s : S) (xs ys : List A) → IsInStep v w s
      → IsStore kept first v' → IsStore kept second w' → Continues kept first v xs v' → Continues kept second w ys w'
      → (v.failed ≡ false → IsSoundDisk kept first v'.disk) × (w.failed ≡ false → IsSoundDisk kept second w'.disk)
      × ((t : S) → IsServedPair v' w' t → (v'.failed ≡ false → StandsOnlyFor kept first t v'.disk)
      × (w'.failed ≡ false → StandsOnlyFor kept second t w'.disk))
