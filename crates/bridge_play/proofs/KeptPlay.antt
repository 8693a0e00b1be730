-- A play stays one over each card, claim and answer to a claim that is taken.
use Rattle.std.proofs.Common.{◌≡◌, ◌+◌, ◌/◌, ◌%◌, ◌<◌, ◌≤◌, ◌==◌, ℕ, Bool, true, false, not, [], ◌∷◌, length, ◌-◌, IsOk, IfSome, refl, sym, ◌∙◌, arith}
use Rattle.std.specs.Prelude.{Option, Some, None, is_some, ◌||◌}
use Rattle.std.proofs.lemmas.Bool.{eqb-false}
use Rattle.std.proofs.lemmas.List.{get_or-set_other}
use Rattle.std.proofs.lemmas.Bool.Decides.{nat_tests}
use Rattle.std.specs.Option.{option_map}
use Rattle.bridge_cards.specs.declared.seat.Seat.{Seat}
use Rattle.bridge_cards.specs.declared.seat.Seat.TheVariants.{North, East, South, West}
use Rattle.bridge_cards.specs.Seat.{seat_number, same_seat}
use Rattle.bridge_auction.specs.declared.contract.Contract.{Contract}
use Rattle.bridge_play.specs.declared.claim.Claim.{Claim}
use Rattle.bridge_play.specs.Claims.{is_asked, has_agreed, all_agreed, consent_to, with_agreed}
use Rattle.bridge_play.specs.Play.{PlayValue, IsPlay, IsClaimIn, with_card, with_claim, with_agreement, without_claim, with_claims, is_agreed, card_answer, claim_answer, consent_answer, consent_if}
use Rattle.bridge_auction.proofs.LessLast.{each_may_follow-less_last}
use Rattle.bridge_play.specs.Legal.{MayPlay}
use Rattle.bridge_play.specs.CardPlay.{CardPlayValue, with_first}
use Rattle.bridge_play.proofs.Seats.{same_seat-eq}
use Rattle.bridge_play.proofs.Legality.{card_legal, card_unclaimed}
use Rattle.bridge_play.proofs.ClaimLegality.{claim_may, ok_asks, ok_current}

-- where no claim stands, nothing has to hold of it
none_claimed : (claim : Option Claim) (P : Claim → Type 0) → is_some claim ≡ false → IfSome claim P
none_claimed None P none = tt
none_claimed (Some claim) P none = cc

-- a card that is taken
pub card_keeps : (play : PlayValue) (seat : Seat) (card : ℕ) → IsPlay play → IsOk (card_answer play seat card) → IsPlay (with_card play card)
card_keeps play seat card is ok = record {
  legal = card_legal play seat card is.legal ok;
  few = is.few;
  claimed = none_claimed play.claim (IsClaimIn (with_card play card)) (card_unclaimed play seat card ok);
}

-- nobody has agreed to a new claim
none_agreed : (seat claimer : Seat) (tricks : ℕ) → has_agreed (record { claimer = claimer; tricks = tricks; agreed = false ∷ false ∷ false ∷ false ∷ [] }) seat ≡ false
none_agreed North claimer tricks = refl
none_agreed East claimer tricks = refl
none_agreed South claimer tricks = refl
none_agreed West claimer tricks = refl

-- some tricks are left where not all cards were played
some_left : (n : ℕ) (agreed : Bool) (tricks : ℕ) → (n == 52 || agreed) ≡ false → n % 4 ≡ 0 → n / 4 + tricks ≤ 13 → n < 52
some_left n agreed tricks over whole within = grind (arith, nat_tests)

-- a claim that is taken
pub claim_keeps : (play : PlayValue) (seat : Seat) (tricks : ℕ) → IsPlay play → IsOk (claim_answer play seat tricks) → IsPlay (with_claim play seat tricks)
claim_keeps play seat tricks is ok =
    let n : ℕ = length play.cards in
    let may = claim_may play seat tricks ok in
    record {
      legal = is.legal;
      few = omega (arith, may.few);
      claimed = record {
        counted = omega arith;
        between = may.between;
        some_left = some_left n (is_agreed play) tricks may.going_on may.between may.within;
        claimer = may.not_dummy;
        within = may.within;
        asked = λ other agreed. let none = none_agreed other seat tricks in cc;
      };
    }

-- who has agreed is asked, after one agreement more too
asked_by : (contract : Contract) (claim : Claim) (seat other : Seat) (same : Bool) → same_seat other seat ≡ same → is_asked contract claim.claimer seat ≡ true
    → (has_agreed claim other ≡ true → is_asked contract claim.claimer other ≡ true)
    → has_agreed (with_agreed seat claim) other ≡ true → is_asked contract claim.claimer other ≡ true
asked_by contract claim seat other true is asked before agreed = rw (same_seat-eq other seat is) asked
asked_by contract claim seat other false is asked before agreed =
    let unchanged = get_or-set_other claim.agreed (seat_number seat) (seat_number other) true false
    (eqb-false (seat_number other) (seat_number seat) is) in
    before (sym unchanged ∙ agreed)

-- a claim to which one player more agrees
claim_agreed : (play : PlayValue) (claim : Claim) (seat : Seat) → IsClaimIn play claim → IsOk (consent_to play.contract claim seat) → IsClaimIn (with_agreement play seat) (with_agreed seat claim)
claim_agreed play claim seat is ok =
    let asked = (ok_asks (all_agreed play.contract claim) (is_asked play.contract claim.claimer seat) (has_agreed claim seat) ok).0 in
    record {
      counted = is.counted;
      between = is.between;
      some_left = is.some_left;
      claimer = is.claimer;
      within = is.within;
      asked = λ other. asked_by play.contract claim seat other (same_seat other seat) refl asked (is.asked other);
    }

-- the same of the claim that a play has, if there is one
claimed_agreed : (play : PlayValue) (seat : Seat) (claim : Option Claim) → IfSome claim (IsClaimIn play) → IsOk (consent_if play.contract claim seat)
    → IfSome (option_map (with_agreed seat) claim) (IsClaimIn (with_agreement play seat))
claimed_agreed play seat None is ok = cc
claimed_agreed play seat (Some claim) is ok = claim_agreed play claim seat is ok

-- an agreement that is taken
pub agreement_keeps : (play : PlayValue) (seat : Seat) (number : ℕ) → IsPlay play → IsOk (consent_answer play seat number) → IsPlay (with_agreement play seat)
agreement_keeps play seat number is ok = record {
  legal = is.legal;
  few = is.few;
  claimed = claimed_agreed play seat play.claim is.claimed
      (ok_current (not (number == play.claims)) (consent_if play.contract play.claim seat) ok).1;
}

-- the last card is taken back, where no claim stands
pub back_keeps : (played : CardPlayValue) (claims : ℕ) (claim : Option Claim) → is_some claim ≡ false → IsPlay (with_claims played claims claim)
    → IsPlay (with_claims (with_first played (length played.cards - 1)) claims claim)
back_keeps played claims claim none is = record {
  legal = each_may_follow-less_last (MayPlay played.hands played.contract) played.cards is.legal;
  few = is.few;
  claimed = none_claimed claim (IsClaimIn (with_claims (with_first played (length played.cards - 1)) claims claim)) none;
}

-- a claim that is dropped
pub refusal_keeps : (play : PlayValue) → IsPlay play → IsPlay (without_claim play)
refusal_keeps play is = record { legal = is.legal; few = is.few; claimed = tt }
