-- One part of a service's calls after another.
use Rattle.std.proofs.Common.{◌≡◌, ◌<◌, ℕ, zero, suc, ◌+◌, Bool, ◌||◌, List, ◌++◌, Option, ap, sym, subst, arith}
use Rattle.http.specs.declared.request.Request.{Request}
use Rattle.http_server.specs.declared.response.Response.{Response}
use Rattle.http_server.proofs.StreamLemmas.{Chain-append}
use Rattle.std.specs.declared.time.Instant.{Instant}
use Rattle.web_loop.specs.declared.client.Client.{Client}
use Rattle.web_loop.specs.declared.offenders.Offenders.{Offenders}
use Rattle.web_loop.specs.declared.turn.Turn.{Turn}
use Rattle.web_loop.specs.Turns.{has_moved, LeadsTo}
use Rattle.web_loop.specs.Round.{LeavesAfter, TurnsBelow}

pub LeadsTo-then : {S : Type 0} (answers : S → Request (List ℕ) → Response → S → Type 0) (a b c : S) → LeadsTo answers a b → LeadsTo answers b c → LeadsTo answers a c
LeadsTo-then answers a b c x y = (x.0 ++ y.0, Chain-append answers x.0 y.0 a b c x.1 y.1)

module _ {S T : Type 0} (answers : S → Request (List ℕ) → Response → S → Type 0) (stays : S → List ℕ → Type 0) (wish : S → Option (List ℕ)) (waits offences : S → ℕ)
    (remaining contents : T → Option (List ℕ)) (now : Instant) (looks : Bool) where
  -- those that are left under the first keys are all that the turns of their clients are of
  pub TurnsBelow-left : (clients left after : ℕ → Option (Client T)) (count : ℕ) (old new : S) (before known : Offenders) (moved : Bool)
      → ((key : ℕ) → key < count → after key ≡ left key)
      → TurnsBelow answers stays wish waits offences remaining contents now looks clients left count old new before known moved
      → TurnsBelow answers stays wish waits offences remaining contents now looks clients after count old new before known moved
  TurnsBelow-left clients left after zero old new before known moved same had = had
  TurnsBelow-left clients left after (suc count) old new before known moved same (mid, noted, did, turn, had, has, is) = (
    mid,
    noted,
    did,
    turn,
    TurnsBelow-left clients left after count old mid before noted did (λ key below. same key (omega (arith, below))) had,
    subst (λ (found : Option (Client T)). LeavesAfter answers stays wish waits offences remaining contents now (looks || did) turn (clients count) found mid new noted known)
        (sym (same count (omega arith))) has,
    is,
  )

  -- the turn of the next client
  pub TurnsBelow-more : (clients left : ℕ → Option (Client T)) (count : ℕ) (old mid new : S) (before noted known : Offenders) (did moved : Bool) (turn : Turn)
      → TurnsBelow answers stays wish waits offences remaining contents now looks clients left count old mid before noted did
      → LeavesAfter answers stays wish waits offences remaining contents now (looks || did) turn (clients count) (left count) mid new noted known → moved ≡ has_moved turn
      → TurnsBelow answers stays wish waits offences remaining contents now looks clients left (count + 1) old new before known (did || moved)
  TurnsBelow-more clients left count old mid new before noted known did moved turn had has is =
      let next : suc count ≡ count + 1 = omega arith in
      subst (λ (n : ℕ). TurnsBelow answers stays wish waits offences remaining contents now looks clients left n old new before known (did || moved)) next
      (mid, noted, did, turn, had, has, ap (λ b. did || b) is)
