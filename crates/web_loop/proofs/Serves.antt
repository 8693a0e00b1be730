-- One round after another.
use Rattle.std.proofs.Common.{◌≡◌, ◌⊎◌, inl, inr, ℕ, suc, ◌+◌, Bool, List, Option, Result, Ok, Err, OnOk, OnErr, subst, arith}
use Rattle.std.specs.Result.{IsErr}
use Rattle.std.specs.declared.net.ip_addr.IpAddr.{IpAddr}
use Rattle.std.specs.declared.time.Instant.{Instant}
use Rattle.http.specs.declared.request.Request.{Request}
use Rattle.http_server.specs.declared.response.Response.{Response}
use Rattle.web_loop.specs.declared.clients.Clients.{Clients}
use Rattle.web_loop.specs.Room.{Admits, AdmitsNone}
use Rattle.web_loop.specs.Serving.{IsRound, LetsIn, Rounds}

-- nothing is asked of an error where it is asked of no error
pub on_ok-of_err : {X Y : Type 0} (P : Type 0) (result : Result X Y) → IsErr result → OnOk result P
on_ok-of_err P (Ok _) is = absurd cc
on_ok-of_err P (Err _) is = tt

came_or_not : {X Y : Type 0} (result : Result X Y) (P Q : Type 0) → OnOk result P → OnErr result Q → P ⊎ Q
came_or_not (Ok _) P Q came none = inl came
came_or_not (Err _) P Q came none = inr none

-- one client more
pub LetsIn-more : {T X Y : Type 0} (now : Instant) (count : ℕ) (stream : T) (address : IpAddr) (old mid new : Clients T) (result : Result X Y) → LetsIn now count old mid
    → OnOk result (Admits stream address now mid new) → OnErr result (AdmitsNone address mid new) → LetsIn now (count + 1) old new
LetsIn-more now count stream address old mid new result before came none =
    let next : suc count ≡ count + 1 = omega arith in
    subst (λ (n : ℕ). LetsIn now n old new) next (mid, stream, address, before, came_or_not result _ _ came none)

module _ {S T : Type 0} (lasts : S → Bool) (answers : S → Request (List ℕ) → Response → S → Type 0) (stays : S → List ℕ → Type 0) (wish : S → Option (List ℕ))
    (waits offences : S → ℕ) (remaining contents : T → Option (List ℕ)) (clients mid after : Clients T) (old between new : S) where
  -- one round more
  pub Rounds-more : (count : ℕ) × Rounds lasts answers stays wish waits offences remaining contents count clients mid old between
      → IsRound lasts answers stays wish waits offences remaining contents mid after between new
      → (count : ℕ) × Rounds lasts answers stays wish waits offences remaining contents count clients after old new
  Rounds-more rounds one = (suc rounds.0, (mid, between, rounds.1, one))
