-- An assigned score is read back from its two bytes, and only from these.
use Rattle.std.proofs.Common.{◌≡◌, ◌+◌, ◌/◌, ◌%◌, ◌==◌, ◌<◌, ◌≤◌, nat_lt, true, ℕ, zero, suc, cond, [], ◌∷◌, Some, None, option_map, refl, sym, ap, ◌∙◌, subst, arith, inl, inr}
use Rattle.std.specs.Prelude.{◌-◌}
use Rattle.std.proofs.lemmas.Bool.{ltb-true, lt-ltb}
use Rattle.std.proofs.lemmas.Grind.{common_steps}
use Rattle.bridge_cards.specs.declared.seat.Seat.{Seat}
use Rattle.bridge_cards.specs.declared.seat.Seat.TheVariants.{North, East, South, West}
use Rattle.bridge_cards.specs.Seat.{seat_number, seat_at}
use Rattle.bridge_auction.specs.declared.bid.Bid.{Bid}
use Rattle.bridge_auction.specs.declared.call.Call.TheVariants as call
use Rattle.bridge_auction.specs.declared.contract.Contract.{Contract}
use Rattle.bridge_auction.specs.declared.contract.Doubling.{Doubling}
use Rattle.bridge_auction.specs.declared.contract.Doubling.TheVariants.{Undoubled, Doubled, Redoubled}
use Rattle.bridge_auction.specs.Bid.{bid_number, bid_at, IsBid}
use Rattle.bridge_auction.specs.Call.{call_at}
use Rattle.bridge_auction.proofs.CallNumbers.{call_at-call_number, call_at-is}
use Rattle.session_bytes.specs.AssignedBytes.{doubling_number, doubling_at, assigned_byte, assigned_bytes, contract_with, assigned_contract, assigned_tricks}
use Rattle.session_bytes.proofs.Options.{not_some}
use Rattle.session_bytes.proofs.ReadSteps.{map_is, if_is}

-- a bid by its number, from what is known of calls
bid_call : (n : ℕ) → call_at (suc (suc (suc n))) ≡ option_map call.Bid (bid_at n)
bid_call n = let number : suc (suc (suc n)) - 3 ≡ n = omega arith in grind (arith, common_steps, number)

bid_back : (bid : Bid) → IsBid bid → bid_at (bid_number bid) ≡ Some bid
bid_back bid is =
    let n : ℕ = bid_number bid in
    let three : suc (suc (suc n)) ≡ 3 + n = omega arith in
    let found = map_is call.Bid (bid_at n) (call.Bid bid) (sym (bid_call n) ∙ ap call_at three ∙ call_at-call_number (call.Bid bid) is) in
    let same : found.0 ≡ bid = let stated : call.Bid found.0 ≡ call.Bid bid = found.2 in cc in
    found.1 ∙ ap Some same

bid_is : (n : ℕ) (bid : Bid) → bid_at n ≡ Some bid → IsBid bid × (bid_number bid ≡ n)
bid_is n bid is =
    let known = call_at-is (suc (suc (suc n))) (call.Bid bid) (bid_call n ∙ ap (option_map call.Bid) is) in
    (known.0, omega (arith, known.1))

-- doublings and seats
doubling_back : (doubling : Doubling) → doubling_at (doubling_number doubling) ≡ doubling
doubling_back Undoubled = refl
doubling_back Doubled = refl
doubling_back Redoubled = refl

doubling_few : (doubling : Doubling) → doubling_number doubling ≤ 2
doubling_few Undoubled = omega arith
doubling_few Doubled = omega arith
doubling_few Redoubled = omega arith

doubling_is : (n : ℕ) → n < 3 → doubling_number (doubling_at n) ≡ n
doubling_is zero few = refl
doubling_is (suc zero) few = refl
doubling_is (suc (suc zero)) few = refl
doubling_is (suc (suc (suc n))) few = absurd (omega arith)

seat_few : (seat : Seat) → seat_number seat ≤ 3
seat_few North = omega arith
seat_few East = omega arith
seat_few South = omega arith
seat_few West = omega arith

abbrev seat_by : ℕ → Seat
seat_by n = cond (n == 0) North (cond (n == 1) East (cond (n == 2) South West))

seat_back : (seat : Seat) → seat_by (seat_number seat) ≡ seat
seat_back North = refl
seat_back East = refl
seat_back South = refl
seat_back West = refl

seat_is : (n : ℕ) → n < 4 → seat_number (seat_by n) ≡ n
seat_is zero few = refl
seat_is (suc zero) few = refl
seat_is (suc (suc zero)) few = refl
seat_is (suc (suc (suc zero))) few = refl
seat_is (suc (suc (suc (suc n)))) few = absurd (omega arith)

-- the second byte
contract_back : (contract : Contract) (tricks : ℕ) → tricks ≤ 13 → contract_with (assigned_byte contract tricks) contract.bid ≡ contract
contract_back contract tricks few =
    let byte = assigned_byte contract tricks in
    let d : ℕ = doubling_number contract.doubling in
    let s : ℕ = seat_number contract.declarer in
    let seats = seat_few contract.declarer in
    let doubling : byte / 56 ≡ d = omega (arith, few, seats) in
    let seat : byte / 14 % 4 ≡ s = omega (arith, few, seats) in
    let made : Doubling → Seat → Contract = λ x y. record { bid = contract.bid; doubling = x; declarer = y } in
    ap (λ x. made x (seat_at (byte / 14))) (ap doubling_at doubling ∙ doubling_back contract.doubling)
    ∙ ap (made contract.doubling) (ap seat_by seat ∙ seat_back contract.declarer)

pub assigned_back : (contract : Contract) (tricks : ℕ) → IsBid contract.bid → tricks ≤ 13 → (assigned_contract (bid_number contract.bid) (assigned_byte contract tricks) ≡ Some contract) × (assigned_tricks (assigned_byte contract tricks) ≡ tricks)
assigned_back contract tricks is few =
    let byte = assigned_byte contract tricks in
    let doublings = doubling_few contract.doubling in
    let seats = seat_few contract.declarer in
    let below : nat_lt byte 168 ≡ true = lt-ltb byte 168 (omega (arith, few, seats, doublings)) in (
      ap (λ b. cond b (option_map (contract_with byte) (bid_at (bid_number contract.bid))) None) below
          ∙ ap (option_map (contract_with byte)) (bid_back contract.bid is)
          ∙ ap Some (contract_back contract tricks few),
      omega (arith, few),
    )

byte_is : (bid : Bid) (second : ℕ) → second < 168 → assigned_byte (contract_with second bid) (assigned_tricks second) ≡ second
byte_is bid second below =
    let doubling = doubling_is (second / 56) (omega arith) in
    let seat : seat_number (seat_at (second / 14)) ≡ second / 14 % 4 = seat_is (second / 14 % 4) (omega arith) in
    omega (arith, doubling, seat, below)

pub assigned_is : (first second : ℕ) (contract : Contract) → assigned_contract first second ≡ Some contract → IsBid contract.bid × (assigned_bytes contract (assigned_tricks second) ≡ first ∷ second ∷ []) × (assigned_tricks second ≤ 13)
assigned_is first second contract is =
    elim (if_is (nat_lt second 168) (option_map (contract_with second) (bid_at first)) None (Some contract) is) [
      | inl here ↦
          let below = ltb-true second 168 here.0 in
          let found = map_is (contract_with second) (bid_at first) contract here.1 in
          let known = bid_is first found.0 found.1 in
          subst (λ (c : Contract). IsBid c.bid × (assigned_bytes c (assigned_tricks second) ≡ first ∷ second ∷ []) × (assigned_tricks second ≤ 13)) found.2 (
            known.0,
            ap (λ n. n ∷ assigned_byte (contract_with second found.0) (assigned_tricks second) ∷ []) known.1
                ∙ ap (λ n. first ∷ n ∷ []) (byte_is found.0 second below),
            omega arith,
          )
      | inr other ↦ absurd (not_some contract other.1)
    ]
