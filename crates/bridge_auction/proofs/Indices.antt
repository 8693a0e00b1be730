-- The last index of a list that passes a test.
use Rattle.std.proofs.Common.{◌≡◌, ℕ, zero, suc, ◌<◌, Bool, true, false, List, [], ◌∷◌, length, take, get_or, Option, Some, None, refl, sym, ap, arith}
use Rattle.std.specs.Prelude.{MatchOption}
use Rattle.std.specs.List.{HoldsAt, AllWithin}
use Rattle.bridge_auction.specs.declared.call.Call.{Call}
use Rattle.bridge_auction.specs.Legal.{later_or_here, last_index}

-- a call that fails the test may be left off the end
pub last_index_miss : (test : Call → Bool) (calls : List Call) (n : ℕ) (x : Call) → n < length calls → x ≡ get_or calls n x → test x ≡ false → last_index test (take (suc n) calls) ≡ last_index test (take n calls)
last_index_miss test [] n x within here fails = absurd (omega arith)
last_index_miss test (call ∷ calls) zero x within here fails = rw (← here, fails) refl
last_index_miss test (call ∷ calls) (suc n) x within here fails =
    ap (λ index. later_or_here index (test call)) (last_index_miss test calls n x (omega arith) here fails)

-- a call that passes the test, at the end, stands at the last such index
pub last_index_hit : (test : Call → Bool) (calls : List Call) (n : ℕ) (x : Call) → n < length calls → x ≡ get_or calls n x → test x ≡ true → last_index test (take (suc n) calls) ≡ Some n
last_index_hit test [] n x within here passes = absurd (omega arith)
last_index_hit test (call ∷ calls) zero x within here passes = rw (← here, passes) refl
last_index_hit test (call ∷ calls) (suc n) x within here passes =
    ap (λ index. later_or_here index (test call)) (last_index_hit test calls n x (omega arith) here passes)

-- where no call passes the test, there is no last index
last_index_none : (test : Call → Bool) (calls : List Call) → AllWithin (λ call. test call ≡ false) calls 0 (length calls) → last_index test calls ≡ None
last_index_none test [] none = refl
last_index_none test (call ∷ calls) none =
    let rest = last_index_none test calls (λ k d least most. none (suc k) d (omega arith) (omega (arith, most))) in
    rw (rest, none 0 call (omega arith) (omega arith)) refl

-- where the call at that index passes the test, and none after it does, that is the last index
last_index_at : (test : Call → Bool) (calls : List Call) (i : ℕ) → i < length calls → HoldsAt (λ call. test call ≡ true) calls i → AllWithin (λ call. test call ≡ false) calls (suc i) (length calls) → last_index test calls ≡ Some i
last_index_at test [] i within here after = absurd (omega (arith, within))
last_index_at test (call ∷ calls) zero within here after =
    let none = last_index_none test calls (λ k d least most. after (suc k) d (omega arith) (omega (arith, most))) in
    rw (none, here call) refl
last_index_at test (call ∷ calls) (suc i) within here after =
    ap (λ index. later_or_here index (test call))
    (last_index_at test calls i (omega (arith, within)) here (λ k d least most. after (suc k) d (omega (arith, least)) (omega (arith, most))))

-- what a search from the end finds is the last index
pub last_index_is : (test : Call → Bool) (calls : List Call) (found : Option ℕ) → MatchOption found (AllWithin (λ call. test call ≡ false) calls 0 (length calls)) (λ i. (i < length calls) × HoldsAt (λ call. test call ≡ true) calls i × AllWithin (λ call. test call ≡ false) calls (suc i) (length calls)) → found ≡ last_index test calls
last_index_is test calls None is = sym (last_index_none test calls is)
last_index_is test calls (Some i) is = sym (last_index_at test calls i is.0 is.1 is.2)
