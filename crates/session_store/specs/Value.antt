-- What a contract sees of a store.
use Rattle.std.specs.Prelude.{◌≡◌, ◌<◌, ◌≤◌, ◌^◌, ℕ, List, length, Bool, Some, refl}
use Rattle.std.specs.Coded.{Coded, code_by, coded×, coded_ℕ, coded_bool, coded_list}
use Rattle.sector_disk.specs.Disk.{Disk}
use Rattle.session_store.specs.Layout.{record_limit, sector_count}
use Rattle.session_store.specs.Keeping.{Keeping, fold}

-- the disk, the base, the actions accepted and not yet confirmed, the state with them, the epoch, the number of its
-- records, and whether a call of the disk has failed
pub record StoreValue (D S A : Type 0) : Type 0 where
  pub disk : D
  pub base : S
  pub pending : List A
  pub state : S
  pub epoch : ℕ
  pub records : ℕ
  pub failed : Bool

-- it is stored as the tuple of its fields
abbrev pub store_code : {D S A : Type 0} → Coded D → Coded S → Coded A → Coded (StoreValue D S A)
store_code {D} {S} {A} of_disk of_state of_action =
    code_by (D × (S × (List A × (S × (ℕ × (ℕ × Bool))))))
    (coded× of_disk (coded× of_state (coded× (coded_list of_action) (coded× of_state (coded× coded_ℕ (coded× coded_ℕ coded_bool))))))
    (λ v. (v.disk, (v.base, (v.pending, (v.state, (v.epoch, (v.records, v.failed)))))))
    (λ t. record {
      disk = t.0;
      base = t.1.0;
      pending = t.1.1.0;
      state = t.1.1.1.0;
      epoch = t.1.1.1.1.0;
      records = t.1.1.1.1.1.0;
      failed = t.1.1.1.1.1.1;
    })
    (λ _. refl)

-- what holds of every store, also after a failed call
pub record IsStore {D S A R : Type 0} (kept : Keeping S A R) (disk : Disk D) (v : StoreValue D S A) : Type 0 where
  pub large : sector_count ≤ disk.count v.disk
  pub accepted : fold kept v.base v.pending ≡ Some v.state
  pub few : length v.pending ≤ 64
  pub recorded : length v.pending ≤ v.records
  pub records : v.records ≤ record_limit
  pub some_epoch : 1 ≤ v.epoch
  pub epoch : v.epoch < 2 ^ 64
