-- Connections that were served one after the other.
use Rattle.std.proofs.Common.{◌≡◌, ℕ, List, Option, subst, sym}
use Rattle.sector_disk.specs.Disk.{Disk}
use Rattle.session_store.specs.Value.{StoreValue}
use Rattle.session_rules.specs.declared.action.Action.{Action}
use Rattle.session_rules.specs.State.{SessionValue}
use Rattle.club_commands.specs.Serving.{ServesEach}

module _ {D : Type 0} (disk : Disk D) {S : Type 0} (remaining contents : S → Option (List ℕ)) where
  -- the store is another by name alone
  pub with_same_store : (count : ℕ) (start store same : StoreValue D SessionValue Action) → same ≡ store
      → ServesEach disk remaining contents count start store → ServesEach disk remaining contents count start same
  with_same_store count start store same is served =
      subst (λ (v : StoreValue D SessionValue Action). ServesEach disk remaining contents count start v) (sym is) served
