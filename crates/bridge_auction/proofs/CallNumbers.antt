-- Calls and their numbers.
use Rattle.std.proofs.Common.{◌≡◌, ◌+◌, ◌-◌, ◌/◌, ◌%◌, ◌<◌, nat_lt, ℕ, zero, suc, inl, inr, Option, Some, None, refl, sym, ap, subst, ◌∙◌, arith}
use Rattle.std.proofs.lemmas.Bool.{cases_Bool, cond-true, cond-false, ltb-true}
use Rattle.std.proofs.lemmas.Grind.{common_steps}
use Rattle.std.specs.Option.{option_map}
use Rattle.bridge_auction.specs.declared.bid.Bid.{Bid}
use Rattle.bridge_auction.specs.declared.bid.Denomination.{Denomination}
use Rattle.bridge_auction.specs.declared.bid.Denomination.TheVariants.{Clubs, Diamonds, Hearts, Spades, NoTrump}
use Rattle.bridge_auction.specs.declared.call.Call.{Call}
use Rattle.bridge_auction.specs.declared.call.Call.TheVariants as call
use Rattle.bridge_auction.specs.Bid.{denomination_number, denomination_at, bid_number, bid_at, IsBid}
use Rattle.bridge_auction.specs.Call.{call_number, call_at, IsCall}

denomination_back : (d : Denomination) → denomination_at (denomination_number d) ≡ d
denomination_back Clubs = refl
denomination_back Diamonds = refl
denomination_back Hearts = refl
denomination_back Spades = refl
denomination_back NoTrump = refl

denomination_few : (d : Denomination) → denomination_number d < 5
denomination_few Clubs = omega arith
denomination_few Diamonds = omega arith
denomination_few Hearts = omega arith
denomination_few Spades = omega arith
denomination_few NoTrump = omega arith

-- the bid of a bid's number is that bid
bid_back : (bid : Bid) → IsBid bid → bid_at (bid_number bid) ≡ Some bid
bid_back bid is =
    let d : ℕ = denomination_number bid.denomination in
    let few = denomination_few bid.denomination in
    let level : bid_number bid / 5 + 1 ≡ bid.level = omega (arith, few, is) in
    let rest : bid_number bid % 5 ≡ d = omega (arith, few, is) in
    let same : denomination_at (bid_number bid % 5) ≡ bid.denomination = ap denomination_at rest ∙ denomination_back bid.denomination in
    grind (arith, few, is, level, same)

-- the call of a call's number is that call
pub call_at-call_number : (c : Call) → IsCall c → call_at (call_number c) ≡ Some c
call_at-call_number call.Pass is = refl
call_at-call_number call.Double is = refl
call_at-call_number call.Redouble is = refl
call_at-call_number (call.Bid bid) is =
    let back = bid_back bid is in
    let number : 3 + bid_number bid - 3 ≡ bid_number bid = omega arith in
    grind (arith, common_steps, number, back)

-- a bid that is found has that number
bid_at_is : (n : ℕ) (bid : Bid) → bid_at n ≡ Some bid → IsBid bid × (bid_number bid ≡ n)
bid_at_is n bid is =
    elim (cases_Bool (nat_lt n 35)) [
      | inl few ↦
          let below : n < 35 = ltb-true n 35 few in
          let made : Bid = record { level = n / 5 + 1; denomination = denomination_at (n % 5) } in
          let stated : Some made ≡ Some bid = sym (cond-true (nat_lt n 35) (Some made) None few) ∙ is in
          let same : made ≡ bid = cc in
          let number : denomination_number (denomination_at (n % 5)) ≡ n % 5 = denomination_is (n % 5) (omega arith) in
          subst (λ (b : Bid). IsBid b × (bid_number b ≡ n)) same ((omega arith, omega (arith, below)), omega (arith, number))
      | inr many ↦ let none : None ≡ Some bid = sym (cond-false (nat_lt n 35) _ None many) ∙ is in absurd cc
    ]
  where
    denomination_is : (p : ℕ) → p < 5 → denomination_number (denomination_at p) ≡ p
    denomination_is zero few = refl
    denomination_is (suc zero) few = refl
    denomination_is (suc (suc zero)) few = refl
    denomination_is (suc (suc (suc zero))) few = refl
    denomination_is (suc (suc (suc (suc zero)))) few = refl
    denomination_is (suc (suc (suc (suc (suc p))))) few = absurd (omega (arith, few))

-- from 3 on the numbers are those of bids
bid_from_three : (n : ℕ) → call_at (suc (suc (suc n))) ≡ option_map call.Bid (bid_at n)
bid_from_three n = let number : suc (suc (suc n)) - 3 ≡ n = omega arith in grind (arith, common_steps, number)

-- a call that is found has that number
pub call_at-is : (n : ℕ) (c : Call) → call_at n ≡ Some c → IsCall c × (call_number c ≡ n)
call_at-is zero c is = let same : call.Pass ≡ c = cc in subst (λ x. IsCall x × (call_number x ≡ 0)) same (tt, refl)
call_at-is (suc zero) c is = let same : call.Double ≡ c = cc in subst (λ x. IsCall x × (call_number x ≡ 1)) same (tt, refl)
call_at-is (suc (suc zero)) c is = let same : call.Redouble ≡ c = cc in subst (λ x. IsCall x × (call_number x ≡ 2)) same (tt, refl)
call_at-is (suc (suc (suc n))) c is = of_bid (bid_at n) refl
  where
    of_bid : (o : Option Bid) → o ≡ bid_at n → IsCall c × (call_number c ≡ suc (suc (suc n)))
    of_bid None found = let none : None ≡ Some c = ap (option_map call.Bid) found ∙ sym (bid_from_three n) ∙ is in absurd cc
    of_bid (Some bid) found =
        let stated : Some (call.Bid bid) ≡ Some c = ap (option_map call.Bid) found ∙ sym (bid_from_three n) ∙ is in
        let same : call.Bid bid ≡ c = cc in
        let known = bid_at_is n bid (sym found) in
        let number : 3 + bid_number bid ≡ suc (suc (suc n)) = omega (arith, known.1) in
        subst (λ x. IsCall x × (call_number x ≡ suc (suc (suc n)))) same (known.0, number)
