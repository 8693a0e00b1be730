-- When a store fails.
use Rattle.std.specs.Prelude.{◌≡◌, ◌⊎◌, true, false}
use Rattle.sector_disk.specs.Disk.{Disk, Rose}
use Rattle.session_store.specs.Value.{StoreValue}
use Rattle.session_rules.specs.declared.action.Action.{Action}
use Rattle.session_rules.specs.State.{SessionValue}

module _ {D : Type 0} (disk : Disk D) where
  -- no call of the disk failed, and the store works where it did
  pub record MeetsNoFault (old new : StoreValue D SessionValue Action) : Type 0 where
    pub faults : disk.faults new.disk ≡ disk.faults old.disk
    pub failed : new.failed ≡ old.failed

  -- a call of the disk failed, and with it the store, which worked
  pub record MeetsFault (old new : StoreValue D SessionValue Action) : Type 0 where
    pub faults : Rose (disk.faults old.disk) (disk.faults new.disk)
    pub worked : old.failed ≡ false
    pub failed : new.failed ≡ true

  -- the store fails exactly where a call of its disk does
  abbrev pub FailsWithDisk : StoreValue D SessionValue Action → StoreValue D SessionValue Action → Type 0
  FailsWithDisk old new = MeetsNoFault old new ⊎ MeetsFault old new
