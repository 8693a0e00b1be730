-- A claim is answered by Ok exactly where it may be made, and a player's answer to it exactly where he may give one.
use Rattle.std.proofs.Common.{◌≡◌, ◌≢◌, ◌↔◌, ◌+◌, ◌/◌, ◌%◌, ◌==◌, ℕ, Bool, true, false, not, if◌then◌else◌, length, Result, Ok, Err, IsOk, refl, sym, ap, ◌∙◌}
use Rattle.std.specs.Prelude.{Option, Some, None, is_some, nat_lt, nat_le, ◌||◌, ◌&&◌}
use Rattle.std.proofs.lemmas.Bool.{eqb-true, eq-eqb, ltb-false, le-ltb, leb-false, lt-leb}
use Rattle.bridge_cards.specs.declared.seat.Seat.{Seat}
use Rattle.bridge_cards.specs.declared.seat.Seat.TheVariants.{North, East, South, West}
use Rattle.bridge_cards.specs.Seat.{same_seat}
use Rattle.bridge_auction.specs.declared.contract.Contract.{Contract}
use Rattle.bridge_play.specs.declared.claim.Claim.{Claim}
use Rattle.bridge_play.specs.declared.refused.ClaimRefused.{ClaimRefused}
use Rattle.bridge_play.specs.declared.refused.ClaimRefused.TheVariants.{Over, ClaimStands, NotYourTurn, MidTrick, TooManyTricks, ClaimsSpent}
use Rattle.bridge_play.specs.declared.refused.ConsentRefused.{ConsentRefused}
use Rattle.bridge_play.specs.declared.refused.ConsentRefused.TheVariants.{NoClaim, NotAsked, Stale}
use Rattle.bridge_play.specs.Dummy.{dummy_of}
use Rattle.bridge_play.specs.Claims.{is_asked, has_agreed, needs_no_answer, all_agreed}
use Rattle.bridge_play.specs.Play.{PlayValue, is_over, claim_answer, consent_answer, consent_if, MayBeClaimed, MayAnswer}
use Rattle.bridge_play.proofs.Seats.{same_seat-eq, same_seat-self}

-- no refusal of a claim applies
record Claims (over claimed dummy whole many spent : Bool) : Type 0 where
  going_on : over ≡ false
  unclaimed : claimed ≡ false
  player : dummy ≡ false
  between : whole ≡ true
  within : many ≡ false
  left : spent ≡ false

-- the answer, by the tests
abbrev claim_by : Bool → Bool → Bool → Bool → Bool → Bool → Result (Unit {0}) ClaimRefused
claim_by over claimed dummy whole many spent =
    if over then Err Over else if claimed then Err ClaimStands else if dummy then Err NotYourTurn
    else if not whole then Err MidTrick else if many then Err TooManyTricks else if spent then Err ClaimsSpent else Ok tt

-- Ok comes only where no refusal does
ok_claims : (over claimed dummy whole many spent : Bool) → IsOk (claim_by over claimed dummy whole many spent) → Claims over claimed dummy whole many spent
ok_claims true claimed dummy whole many spent ok = cc
ok_claims false true dummy whole many spent ok = cc
ok_claims false false true whole many spent ok = cc
ok_claims false false false false many spent ok = cc
ok_claims false false false true true spent ok = cc
ok_claims false false false true false true ok = cc
ok_claims false false false true false false ok =
    record { going_on = refl; unclaimed = refl; player = refl; between = refl; within = refl; left = refl }

-- where no refusal does, Ok comes
claims_ok : (over claimed dummy whole many spent : Bool) → Claims over claimed dummy whole many spent → claim_by over claimed dummy whole many spent ≡ Ok (tt {0})
claims_ok over claimed dummy whole many spent claims =
    rw (claims.going_on, claims.unclaimed, claims.player, claims.between, claims.within, claims.left) refl

-- a seat that is not dummy's
other_seat : (a b : Seat) → same_seat a b ≡ false → a ≢ b
other_seat a b other same = let itself : same_seat a b ≡ true = ap (same_seat a) (sym same) ∙ same_seat-self a in cc

not_same : (a b : Seat) (same : Bool) → same_seat a b ≡ same → a ≢ b → same ≡ false
not_same a b true is other = absurd (other (same_seat-eq a b is))
not_same a b false is other = refl

-- a claim that is answered by Ok may be made
pub claim_may : (play : PlayValue) (seat : Seat) (tricks : ℕ) → IsOk (claim_answer play seat tricks) → MayBeClaimed play seat tricks
claim_may play seat tricks ok =
    let n : ℕ = length play.cards in
    let passes = ok_claims (is_over play) (is_some play.claim) (same_seat seat (dummy_of play.contract)) (n % 4 == 0)
    (nat_lt 13 (n / 4 + tricks)) (nat_le 99 play.claims) ok in
    record {
      going_on = passes.going_on;
      unclaimed = passes.unclaimed;
      not_dummy = other_seat seat (dummy_of play.contract) passes.player;
      between = eqb-true (n % 4) 0 passes.between;
      within = ltb-false 13 (n / 4 + tricks) passes.within;
      few = leb-false 99 play.claims passes.left;
    }

-- a claim that may be made is answered by Ok
may_claim : (play : PlayValue) (seat : Seat) (tricks : ℕ) → MayBeClaimed play seat tricks → claim_answer play seat tricks ≡ Ok (tt {0})
may_claim play seat tricks may =
    let n : ℕ = length play.cards in
    claims_ok (is_over play) (is_some play.claim) (same_seat seat (dummy_of play.contract)) (n % 4 == 0)
    (nat_lt 13 (n / 4 + tricks)) (nat_le 99 play.claims)
    (record {
      going_on = may.going_on;
      unclaimed = may.unclaimed;
      player = not_same seat (dummy_of play.contract) (same_seat seat (dummy_of play.contract)) refl may.not_dummy;
      between = rw may.between refl;
      within = le-ltb 13 (n / 4 + tricks) may.within;
      left = lt-leb 99 play.claims may.few;
    })

pub claim_accepts : (play : PlayValue) (seat : Seat) (tricks : ℕ) (answer : Result (Unit {0}) ClaimRefused) → answer ≡ claim_answer play seat tricks → (IsOk answer ↔ MayBeClaimed play seat tricks)
claim_accepts play seat tricks (Ok u) is = (λ ok. claim_may play seat tricks (rw (← is) refl), λ may. refl)
claim_accepts play seat tricks (Err refused) is = (
  λ ok. cc,
  λ may. let contrary : claim_answer play seat tricks ≡ Ok (tt {0}) = may_claim play seat tricks may in cc,
)

-- a player who may answer is asked, and has not agreed
pub ok_asks : (all asked agreed : Bool) →
    IsOk {T = Unit {0}} (if all then Err NoClaim else if not asked || agreed then Err NotAsked else Ok tt) → (asked ≡ true) × (agreed ≡ false)
ok_asks true asked agreed ok = cc
ok_asks false true true ok = cc
ok_asks false true false ok = (refl, refl)
ok_asks false false agreed ok = cc

-- an answer is taken only to the claim that was made last
pub ok_current : (stale : Bool) (answer : Result (Unit {0}) ConsentRefused) → IsOk (if stale then Err Stale else answer) → (stale ≡ false) × IsOk answer
ok_current true answer ok = cc
ok_current false answer ok = (refl, ok)

-- where one of two does not hold, they do not both
right_fails : (a b : Bool) → b ≡ false → (a && b) ≡ false
right_fails true b fails = fails
right_fails false b fails = refl

-- where a player has still to answer, not all have agreed
some_waits : (contract : Contract) (claim : Claim) (seat : Seat) → needs_no_answer contract claim seat ≡ false → all_agreed contract claim ≡ false
some_waits contract claim North waits = rw waits refl
some_waits contract claim East waits = right_fails (needs_no_answer contract claim North) _ (rw waits refl)
some_waits contract claim South waits =
    right_fails (needs_no_answer contract claim North) _ (right_fails (needs_no_answer contract claim East) _ (rw waits refl))
some_waits contract claim West waits =
    right_fails (needs_no_answer contract claim North) _
    (right_fails (needs_no_answer contract claim East) _ (right_fails (needs_no_answer contract claim South) _ waits))

-- the number that a claim has is not stale
not_stale : (stale : Bool) (number claims : ℕ) → not (number == claims) ≡ stale → stale ≡ false → number ≡ claims
not_stale stale number claims is current = eqb-true number claims (known (number == claims) (is ∙ current))
  where
    known : (b : Bool) → not b ≡ false → b ≡ true
    known true not_false = refl
    known false not_false = cc

-- a player whose answer is taken may answer the claim
answers_may : (play : PlayValue) (seat : Seat) (number : ℕ) (claim : Option Claim) → play.claim ≡ claim → number ≡ play.claims → IsOk (consent_if play.contract claim seat) → MayAnswer play seat number
answers_may play seat number None is current ok = cc
answers_may play seat number (Some claim) is current ok =
    let asks = ok_asks (all_agreed play.contract claim) (is_asked play.contract claim.claimer seat) (has_agreed claim seat) ok in
    record { current = current; claim = claim; stands = is; asked = asks.0; unanswered = asks.1 }

answer_may : (play : PlayValue) (seat : Seat) (number : ℕ) → IsOk (consent_answer play seat number) → MayAnswer play seat number
answer_may play seat number ok =
    let stale : Bool = not (number == play.claims) in
    let current = ok_current stale (consent_if play.contract play.claim seat) ok in
    answers_may play seat number play.claim refl (not_stale stale number play.claims refl current.0) current.1

-- the answer of a player who may give one is taken
may_answer : (play : PlayValue) (seat : Seat) (number : ℕ) → MayAnswer play seat number → consent_answer play seat number ≡ Ok (tt {0})
may_answer play seat number may =
    let waits : needs_no_answer play.contract may.claim seat ≡ false = rw (may.asked, may.unanswered) refl in
    rw (eq-eqb number play.claims may.current, may.stands, some_waits play.contract may.claim seat waits, waits) refl

pub consent_accepts : (play : PlayValue) (seat : Seat) (number : ℕ) (answer : Result (Unit {0}) ConsentRefused) → answer ≡ consent_answer play seat number → (IsOk answer ↔ MayAnswer play seat number)
consent_accepts play seat number (Ok u) is = (λ ok. answer_may play seat number (rw (← is) refl), λ may. refl)
consent_accepts play seat number (Err refused) is = (
  λ ok. cc,
  λ may. let contrary : consent_answer play seat number ≡ Ok (tt {0}) = may_answer play seat number may in cc,
)
