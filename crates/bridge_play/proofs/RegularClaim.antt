-- The test of a claim holds exactly where the claim is one that stands or was agreed.
use Rattle.std.proofs.Common.{◌≡◌, ◌≢◌, ◌+◌, ◌/◌, ◌%◌, ◌==◌, ℕ, Bool, true, false, not, ◌&&◌, ◌||◌, length, refl, sym, ap, ◌∙◌}
use Rattle.std.specs.Prelude.{nat_lt, nat_le}
use Rattle.std.proofs.lemmas.Bool.{and_parts, eqb-true, eq-eqb, ltb-true, lt-ltb, leb-true, le-leb}
use Rattle.bridge_cards.specs.declared.seat.Seat.{Seat}
use Rattle.bridge_cards.specs.declared.seat.Seat.TheVariants.{North, East, South, West}
use Rattle.bridge_cards.specs.Seat.{same_seat}
use Rattle.bridge_auction.specs.declared.contract.Contract.{Contract}
use Rattle.bridge_play.specs.declared.claim.Claim.{Claim}
use Rattle.bridge_play.specs.Claims.{is_asked, has_agreed, agrees_if_asked, only_asked_agree}
use Rattle.bridge_play.specs.Dummy.{dummy_of}
use Rattle.bridge_play.specs.Play.{PlayValue, IsClaimIn, is_claim_in}
use Rattle.bridge_play.proofs.Seats.{same_seat-eq, same_seat-self}

-- two tests that hold hold both
both : (a b : Bool) → a ≡ true → b ≡ true → (a && b) ≡ true
both a b left right = rw left right

asked_by : (asked agreed : Bool) → (asked || not agreed) ≡ true → agreed ≡ true → asked ≡ true
asked_by true agreed test is = refl
asked_by false true test is = cc
asked_by false false test is = cc

by_asked : (asked agreed : Bool) → (agreed ≡ true → asked ≡ true) → (asked || not agreed) ≡ true
by_asked true agreed test = refl
by_asked false true test = test refl
by_asked false false test = refl

-- nobody has agreed who is not asked
test_asked : (contract : Contract) (claim : Claim) → only_asked_agree contract claim ≡ true → (seat : Seat) → has_agreed claim seat ≡ true → is_asked contract claim.claimer seat ≡ true
test_asked contract claim test seat =
    let first = and_parts (agrees_if_asked contract claim North) _ test in
    let second = and_parts (agrees_if_asked contract claim East) _ first.1 in
    let third = and_parts (agrees_if_asked contract claim South) (agrees_if_asked contract claim West) second.1 in
    asked_by (is_asked contract claim.claimer seat) (has_agreed claim seat) (of_seat first.0 second.0 third.0 third.1 seat)
  where
    of_seat : agrees_if_asked contract claim North ≡ true → agrees_if_asked contract claim East ≡ true → agrees_if_asked contract claim South ≡ true
        → agrees_if_asked contract claim West ≡ true → (seat : Seat) → agrees_if_asked contract claim seat ≡ true
    of_seat north east south west North = north
    of_seat north east south west East = east
    of_seat north east south west South = south
    of_seat north east south west West = west

asked_test : (contract : Contract) (claim : Claim) → ((seat : Seat) → has_agreed claim seat ≡ true → is_asked contract claim.claimer seat ≡ true) → only_asked_agree contract claim ≡ true
asked_test contract claim asked =
    both (agrees_if_asked contract claim North) _ (of_seat North)
    (both (agrees_if_asked contract claim East) _ (of_seat East)
    (both (agrees_if_asked contract claim South) (agrees_if_asked contract claim West) (of_seat South) (of_seat West)))
  where
    of_seat : (seat : Seat) → agrees_if_asked contract claim seat ≡ true
    of_seat seat = by_asked (is_asked contract claim.claimer seat) (has_agreed claim seat) (asked seat)

not_true : (b : Bool) → not b ≡ true → b ≡ false
not_true true is = cc
not_true false is = refl

other_seat : (a b : Seat) → not (same_seat a b) ≡ true → a ≢ b
other_seat a b other same =
    let itself : same_seat a b ≡ true = ap (same_seat a) (sym same) ∙ same_seat-self a in
    let differ = not_true (same_seat a b) other in cc

not_same : (a b : Seat) (same : Bool) → same_seat a b ≡ same → a ≢ b → not same ≡ true
not_same a b true is other = absurd (other (same_seat-eq a b is))
not_same a b false is other = refl

pub regular_claim : (play : PlayValue) (claim : Claim) → is_claim_in play claim ≡ true → IsClaimIn play claim
regular_claim play claim test =
    let n : ℕ = length play.cards in
    let counted = and_parts (nat_le 1 play.claims) _ test in
    let between = and_parts (n % 4 == 0) _ counted.1 in
    let left = and_parts (nat_lt n 52) _ between.1 in
    let player = and_parts (not (same_seat claim.claimer (dummy_of play.contract))) _ left.1 in
    let within = and_parts (nat_le (n / 4 + claim.tricks) 13) (only_asked_agree play.contract claim) player.1 in
    record {
      counted = leb-true 1 play.claims counted.0;
      between = eqb-true (n % 4) 0 between.0;
      some_left = ltb-true n 52 left.0;
      claimer = other_seat claim.claimer (dummy_of play.contract) player.0;
      within = leb-true (n / 4 + claim.tricks) 13 within.0;
      asked = test_asked play.contract claim within.1;
    }

pub claim_regular : (play : PlayValue) (claim : Claim) → IsClaimIn play claim → is_claim_in play claim ≡ true
claim_regular play claim is =
    let n : ℕ = length play.cards in
    both (nat_le 1 play.claims) _ (le-leb 1 play.claims is.counted)
    (both (n % 4 == 0) _ (eq-eqb (n % 4) 0 is.between)
    (both (nat_lt n 52) _ (lt-ltb n 52 is.some_left)
    (both (not (same_seat claim.claimer (dummy_of play.contract))) _
    (not_same claim.claimer (dummy_of play.contract) (same_seat claim.claimer (dummy_of play.contract)) refl is.claimer)
    (both (nat_le (n / 4 + claim.tricks) 13) (only_asked_agree play.contract claim) (le-leb (n / 4 + claim.tricks) 13 is.within)
    (asked_test play.contract claim is.asked)))))
