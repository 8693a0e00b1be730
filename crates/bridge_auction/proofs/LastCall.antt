-- The last call that is no pass, as calls are added.
use Rattle.std.proofs.Common.{◌≡◌, ℕ, suc, ◌<◌, ◌≤◌, Bool, true, false, not, if◌then◌else◌, List, [], ◌∷◌, ◌++◌, length, Option, Some, None, refl, arith}
use Rattle.std.specs.List.{slice_get}
use Rattle.std.specs.Option.{option_map_or}
use Rattle.std.specs.Prelude.{option_and_then}
use Rattle.bridge_cards.proofs.FollowLaws.{slice_get-left, slice_get-seam}
use Rattle.bridge_auction.specs.declared.call.Call.{Call}
use Rattle.bridge_auction.specs.declared.call.Call.TheVariants.{Pass, Bid, Double, Redouble}
use Rattle.bridge_auction.specs.Call.{is_pass, is_bid, is_double}
use Rattle.bridge_auction.specs.Legal.{last_index, later_or_here, is_opponents, opponents_call}

-- the last call that is no pass
abbrev pub last_call : List Call → Option Call
last_call calls = option_and_then (slice_get calls) (last_index (λ call. not (is_pass call)) calls)

-- how far that call has come on the way from a bid to its redouble
abbrev pub steps_of : Option Call → ℕ
steps_of None = 0
steps_of (Some Pass) = 0
steps_of (Some (Bid _)) = 0
steps_of (Some Double) = 1
steps_of (Some Redouble) = 2

-- the last index, after one call more
pub last_index-push : (test : Call → Bool) (calls : List Call) (call : Call) → last_index test (calls ++ call ∷ []) ≡ (if test call then Some (length calls) else last_index test calls)
last_index-push test [] call = elim (test call) as (λ b. later_or_here None b ≡ (if b then Some 0 else None)) [ true ↦ refl | false ↦ refl ]
last_index-push test (first ∷ calls) call =
    rw (last_index-push test calls call)
    (elim (test call) as (λ b. later_or_here (if b then Some (length calls) else last_index test calls) (test first)
    ≡ (if b then Some (suc (length calls)) else later_or_here (last_index test calls) (test first))) [ true ↦ refl | false ↦ refl ])

-- an index in the rest of a list, or at its head, is within the list
later_within : (later : Option ℕ) (here : Bool) (n index : ℕ) → ((k : ℕ) → later ≡ Some k → k < n) → later_or_here later here ≡ Some index → index < suc n
later_within (Some k) here n index within is =
    let e : suc k ≡ index = cc in
    omega (arith, e, within k refl)
later_within None true n index within is =
    let e : 0 ≡ index = cc in
    omega (arith, e)
later_within None false n index within is = cc

-- the last index is within the list
pub last_index_within : (test : Call → Bool) (calls : List Call) (index : ℕ) → last_index test calls ≡ Some index → index < length calls
last_index_within test [] index is = cc
last_index_within test (call ∷ calls) index is =
    later_within (last_index test calls) (test call) (length calls) index (last_index_within test calls) is

-- what stands at an index of the first of two lists
looked_up : (xs ys : List Call) (at_index : Option ℕ) → ((k : ℕ) → at_index ≡ Some k → k < length xs) → option_and_then (slice_get (xs ++ ys)) at_index ≡ option_and_then (slice_get xs) at_index
looked_up xs ys None within = refl
looked_up xs ys (Some index) within = slice_get-left xs ys index (within index refl)

-- a pass leaves the last other call as it was
pub last_call-pass : (calls : List Call) → last_call (calls ++ Pass ∷ []) ≡ last_call calls
last_call-pass calls =
    rw (last_index-push (λ call. not (is_pass call)) calls Pass)
    (looked_up calls (Pass ∷ []) (last_index (λ call. not (is_pass call)) calls) (last_index_within (λ call. not (is_pass call)) calls))

-- a call other than a pass is then the last one
pub last_call-push : (calls : List Call) (call : Call) → is_pass call ≡ false → last_call (calls ++ call ∷ []) ≡ Some call
last_call-push calls call other =
    rw (last_index-push (λ call'. not (is_pass call')) calls call, other) (slice_get-seam calls call [])

-- an opponent's call that may be doubled or redoubled is the last one that is no pass
opponents_last : (calls : List Call) (opponents : ℕ → Bool) (at_index : Option ℕ) (call : Call) → option_and_then (λ index. if opponents index then slice_get calls index else None) at_index ≡ Some call → option_and_then (slice_get calls) at_index ≡ Some call
opponents_last calls opponents None call is = is
opponents_last calls opponents (Some index) call is = given (opponents index) is
  where
    given : (b : Bool) → (if b then slice_get calls index else None) ≡ Some call → slice_get calls index ≡ Some call
    given true h = h
    given false h = cc

-- some call passes the test, if a test of a call that may be there does
passes_some : (test : Call → Bool) (found : Option Call) → option_map_or test found false ≡ true → (call : Call) × (found ≡ Some call) × (test call ≡ true)
passes_some test None passes = cc
passes_some test (Some call) passes = (call, refl, passes)

-- where an opponent's call passes the test, it is the last one that is no pass
pub opponents_passes : (test : Call → Bool) (calls : List Call) → option_map_or test (opponents_call calls) false ≡ true → (call : Call) × (last_call calls ≡ Some call) × (test call ≡ true)
opponents_passes test calls passes =
    let found = passes_some test (opponents_call calls) passes in
    (found.0, opponents_last calls (is_opponents calls) (last_index (λ call. not (is_pass call)) calls) found.0 found.1, found.2)

-- before a double the last call is a bid, and before a redouble it is a double
bid_steps : (call : Call) → is_bid call ≡ true → steps_of (Some call) ≡ 0
bid_steps Pass is = cc
bid_steps (Bid bid) is = refl
bid_steps Double is = cc
bid_steps Redouble is = cc

double_steps : (call : Call) → is_double call ≡ true → steps_of (Some call) ≡ 1
double_steps Pass is = cc
double_steps (Bid bid) is = cc
double_steps Double is = refl
double_steps Redouble is = cc

pub before_double : (calls : List Call) → option_map_or is_bid (opponents_call calls) false ≡ true → (steps_of (last_call calls) ≡ 0) × (last_call calls ≡ None → ⊥)
before_double calls passes =
    let found = opponents_passes is_bid calls passes in
    (rw found.1 (bid_steps found.0 found.2), λ none. cc (found.1))

pub before_redouble : (calls : List Call) → option_map_or is_double (opponents_call calls) false ≡ true → (steps_of (last_call calls) ≡ 1) × (last_call calls ≡ None → ⊥)
before_redouble calls passes =
    let found = opponents_passes is_double calls passes in
    (rw found.1 (double_steps found.0 found.2), λ none. cc (found.1))

-- no call is more than two steps on
pub steps_of_le : (last : Option Call) → steps_of last ≤ 2
steps_of_le None = omega arith
steps_of_le (Some Pass) = omega arith
steps_of_le (Some (Bid _)) = omega arith
steps_of_le (Some Double) = omega arith
steps_of_le (Some Redouble) = omega arith
