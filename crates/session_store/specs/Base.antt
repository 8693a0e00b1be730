-- What an image stands for whatever becomes of the sectors that are not in use. What a store writes is of the second format.
use Rattle.std.specs.Prelude.{◌≡◌, ◌⊎◌, ◌<◌, ◌≤◌, ◌+◌, ◌-◌, ℕ, List, [], ◌∷◌, length, take, Some, Ok}
use Rattle.sector_disk.specs.Disk.{Image}
use Rattle.session_store.specs.Layout.{journal_place, record_limit, snapshot_size}
use Rattle.session_store.specs.Keeping.{Keeping, fold}
use Rattle.session_store.specs.declared.disk_format.DiskFormat.{DiskFormat}
use Rattle.session_store.specs.declared.disk_format.DiskFormat.TheVariants.{Two}
use Rattle.session_store.specs.declared.reading.Header.{Header}
use Rattle.session_store.specs.Form.{entry_in, place}
use Rattle.session_store.specs.Stands.{header_in, recovered, replay, NoneLater, IsInOrder}
use Rattle.session_store.specs.declared.reading.Entry.TheVariants.{Missing, Holds}

-- a sector of the snapshot that this epoch does not use, past its header
abbrev pub IsSpare : ℕ → ℕ → Type 0
IsSpare epoch k = (place (epoch + 1) < k) × (k < place (epoch + 1) + snapshot_size)

-- the same in both snapshots and the first n sectors of the journal, but for the spare ones
abbrev pub Agrees : ℕ → ℕ → Image → Image → Type 0
Agrees epoch n a b = (k : ℕ) → k < journal_place + n → (IsSpare epoch k → ⊥) → b k ≡ a k

-- the header that counts is of this epoch
abbrev pub HasEpoch : ℕ → Image → Type 0
HasEpoch epoch image = (h : Header) × (header_in image ≡ Some h) × (h.epoch ≡ epoch)

-- the header that counts is of this format
abbrev pub HasFormat : DiskFormat → Image → Type 0
HasFormat format image = (h : Header) × (header_in image ≡ Some h) × (h.format ≡ format)

module _ {S A R : Type 0} (kept : Keeping S A R) where
  -- Whatever stands in the spare sectors and in the journal from record n on, the image stands for what its records
  -- from n on make of the base.
  pub record IsBase (epoch : ℕ) (base : S) (n : ℕ) (image : Image) : Type 0 where
    pub header : (other : Image) → Agrees epoch n image other → HasEpoch epoch other
    pub stands : (other : Image) → Agrees epoch n image other
        → recovered kept other ≡ replay kept Two (record_limit - n) other epoch n base

  -- from record k on these actions stand in the journal, each there or missing, and then no record
  unfoldable pub MayHold : ℕ → ℕ → List A → Image → Type 0
  MayHold epoch k [] image = (j : ℕ) → k ≤ j → j < record_limit → entry_in kept Two epoch j (image (journal_place + j)) ≡ Missing
  MayHold epoch k (a ∷ actions) image =
      ((entry_in kept Two epoch k (image (journal_place + k)) ≡ Holds a) ⊎ (entry_in kept Two epoch k (image (journal_place + k)) ≡ Missing))
      × MayHold epoch (k + 1) actions image

  -- from record k on these actions stand in the journal
  unfoldable pub HoldsAll : ℕ → ℕ → List A → Image → Type 0
  HoldsAll epoch k [] image = Unit {0}
  HoldsAll epoch k (a ∷ actions) image =
      (entry_in kept Two epoch k (image (journal_place + k)) ≡ Holds a) × HoldsAll epoch (k + 1) actions image

  -- the image of a store at work: its base is that of n records, and its pending actions are there or missing
  pub record IsSettled (epoch : ℕ) (base : S) (n : ℕ) (pending : List A) (image : Image) : Type 0 where
    pub is_base : IsBase epoch base n image
    pub journal : MayHold epoch n pending image
    pub in_order : NoneLater epoch image

  -- the image stands for the base with a prefix of these actions, and is in order
  pub record StandsForPrefix (base : S) (actions : List A) (image : Image) : Type 0 where
    pub count : ℕ
    pub few : count ≤ length actions
    pub state : S
    pub made : fold kept base (take count actions) ≡ Some state
    pub stands : recovered kept image ≡ Ok state
    pub in_order : IsInOrder image
