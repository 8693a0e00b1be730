-- The answer to a call is Ok exactly where the list with the call is legal.
use Rattle.std.proofs.Common.{◌≡◌, ◌↔◌, Bool, true, false, if◌then◌else◌, List, [], ◌∷◌, ◌++◌, Result, Ok, Err, IsOk, OnOk, refl}
use Rattle.bridge_cards.proofs.FollowLaws.{may_follow_front, each_may_follow-push}
use Rattle.bridge_auction.specs.declared.call.Call.{Call}
use Rattle.bridge_auction.specs.declared.call.Call.TheVariants.{Pass, Bid, Double, Redouble}
use Rattle.bridge_auction.specs.declared.refused.CallRefused.{CallRefused}
use Rattle.bridge_auction.specs.declared.refused.CallRefused.TheVariants.{Ended, InsufficientBid, InadmissibleDouble, InadmissibleRedouble}
use Rattle.bridge_auction.specs.Call.{IsCall}
use Rattle.bridge_auction.specs.Legal.{is_ended, is_admissible, MayFollow, IsLegal}
use Rattle.bridge_auction.specs.Answer.{open_answer, answer_to}

-- a call is taken only where it is admissible
taken_means : (admissible : Bool) (refused : CallRefused) → IsOk (if admissible then Ok (tt {0}) else Err refused) → admissible ≡ true
taken_means true refused ok = refl
taken_means false refused ok = cc

open_means : (earlier : List Call) (call : Call) → IsOk (open_answer earlier call) → is_admissible earlier call ≡ true
open_means earlier Pass ok = refl
open_means earlier (Bid bid) ok = taken_means (is_admissible earlier (Bid bid)) InsufficientBid ok
open_means earlier Double ok = taken_means (is_admissible earlier Double) InadmissibleDouble ok
open_means earlier Redouble ok = taken_means (is_admissible earlier Redouble) InadmissibleRedouble ok

-- and an admissible one is taken
means_open : (earlier : List Call) (call : Call) → is_admissible earlier call ≡ true → open_answer earlier call ≡ Ok (tt {0})
means_open earlier Pass admissible = refl
means_open earlier (Bid bid) admissible = rw admissible refl
means_open earlier Double admissible = rw admissible refl
means_open earlier Redouble admissible = rw admissible refl

-- an answer is Ok only where the auction is open and the call admissible
ok_means : (ended : Bool) (earlier : List Call) (call : Call) → IsOk (if ended then Err Ended else open_answer earlier call) → (ended ≡ false) × (is_admissible earlier call ≡ true)
ok_means true earlier call ok = cc
ok_means false earlier call ok = (refl, open_means earlier call ok)

-- a call is answered by Ok exactly where the list with it is legal
pub ok_legal : (calls : List Call) (call : Call) → IsLegal calls → IsCall call → IsOk (answer_to calls call) → IsLegal (calls ++ call ∷ [])
ok_legal calls call legal known ok =
    let means = ok_means (is_ended calls) calls call ok in
    each_may_follow-push MayFollow calls call legal (record { known = known; open_auction = means.0; admissible = means.1 })

pub legal_ok : (calls : List Call) (call : Call) → IsLegal (calls ++ call ∷ []) → answer_to calls call ≡ Ok (tt {0})
legal_ok calls call legal =
    let may = may_follow_front MayFollow calls call [] legal in
    rw may.open_auction (means_open calls call may.admissible)

-- an answer to a known call is Ok exactly where the list with the call is legal
pub answers_legal : (calls slice : List Call) (call : Call) (answer : Result (Unit {0}) CallRefused) → IsLegal calls → slice ≡ calls → answer ≡ answer_to slice call → OnOk answer (IsCall call) → (IsOk answer ↔ IsLegal (calls ++ call ∷ []))
answers_legal calls slice call (Ok u) legal same is known =
    (λ ok. ok_legal calls call legal known (rw (← same, ← is) refl), λ longer. refl)
answers_legal calls slice call (Err refused) legal same is known = (
  λ ok. cc,
  λ longer.
      let contrary : answer_to slice call ≡ Ok (tt {0}) = rw same (legal_ok calls call longer) in
      cc,
)
