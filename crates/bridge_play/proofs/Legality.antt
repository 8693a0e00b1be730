-- A card is answered by Ok exactly where it may be played.
use Rattle.std.proofs.Common.{◌≡◌, ◌↔◌, ◌∙◌, Bool, true, false, not, if◌then◌else◌, [], ◌∷◌, ◌++◌, ℕ, Result, Ok, Err, IsOk, OnOk, refl, ap}
use Rattle.std.specs.Prelude.{is_some}
use Rattle.bridge_cards.specs.declared.seat.Seat.{Seat}
use Rattle.bridge_cards.proofs.FollowLaws.{may_follow_front, each_may_follow-push}
use Rattle.bridge_play.specs.declared.refused.CardRefused.{CardRefused}
use Rattle.bridge_play.specs.declared.refused.CardRefused.TheVariants.{Over, ClaimStands, NotYourTurn, NotHeld, MustFollow}
use Rattle.bridge_play.specs.Trick.{turn_of}
use Rattle.bridge_cards.specs.Seat.{same_seat}
use Rattle.bridge_play.specs.Dummy.{actor_of}
use Rattle.bridge_play.specs.Legal.{holds, follows, MayPlay, IsLegal}
use Rattle.bridge_play.specs.Play.{PlayValue, is_over, card_answer, MayBePlayed}
use Rattle.bridge_play.proofs.Seats.{same_seat-eq, same_seat-self}

-- no refusal of a card applies
record Passes (over claimed acts holding suited : Bool) : Type 0 where
  going_on : over ≡ false
  unclaimed : claimed ≡ false
  acting : acts ≡ true
  held : holding ≡ true
  following : suited ≡ true

-- the answer, by the tests
abbrev answer_by : Bool → Bool → Bool → Bool → Bool → Result (Unit {0}) CardRefused
answer_by over claimed acts held following =
    if over then Err Over
    else if claimed then Err ClaimStands
    else if not acts then Err NotYourTurn
    else if not held then Err NotHeld
    else if not following then Err MustFollow
    else Ok tt

-- Ok comes only where no refusal does
ok_passes : (over claimed acts held following : Bool) → IsOk (answer_by over claimed acts held following) → Passes over claimed acts held following
ok_passes true claimed acts held following ok = cc
ok_passes false true acts held following ok = cc
ok_passes false false false held following ok = cc
ok_passes false false true false following ok = cc
ok_passes false false true true false ok = cc
ok_passes false false true true true ok =
    record { going_on = refl; unclaimed = refl; acting = refl; held = refl; following = refl }

-- where no refusal does, Ok comes
passes_ok : (over claimed acts held following : Bool) → Passes over claimed acts held following → answer_by over claimed acts held following ≡ Ok (tt {0})
passes_ok over claimed acts held following passes =
    rw (passes.going_on, passes.unclaimed, passes.acting, passes.held, passes.following) refl

-- the tests of a card
abbrev CardPasses : PlayValue → Seat → ℕ → Type 0
CardPasses play seat card =
    let hand = turn_of play.contract play.cards in
    Passes (is_over play) (is_some play.claim) (same_seat seat (actor_of play.contract hand))
    (holds play.hands play.cards hand card) (follows play.hands play.cards hand card)

card_passes : (play : PlayValue) (seat : Seat) (card : ℕ) → IsOk (card_answer play seat card) → CardPasses play seat card
card_passes play seat card ok =
    let hand : Seat = turn_of play.contract play.cards in
    ok_passes (is_over play) (is_some play.claim) (same_seat seat (actor_of play.contract hand))
    (holds play.hands play.cards hand card) (follows play.hands play.cards hand card) ok

-- no claim stands where a card is taken
pub card_unclaimed : (play : PlayValue) (seat : Seat) (card : ℕ) → IsOk (card_answer play seat card) → is_some play.claim ≡ false
card_unclaimed play seat card ok = (card_passes play seat card ok).unclaimed

-- the list with the card is legal
pub card_legal : (play : PlayValue) (seat : Seat) (card : ℕ) → IsLegal play.hands play.contract play.cards → IsOk (card_answer play seat card) → IsLegal play.hands play.contract (play.cards ++ card ∷ [])
card_legal play seat card legal ok =
    let passes = card_passes play seat card ok in
    each_may_follow-push (MayPlay play.hands play.contract) play.cards card legal (record { held = passes.held; following = passes.following })

-- a card that is answered by Ok may be played
ok_may : (play : PlayValue) (seat : Seat) (card : ℕ) → IsLegal play.hands play.contract play.cards → IsOk (card_answer play seat card) → MayBePlayed play seat card
ok_may play seat card legal ok =
    let passes = card_passes play seat card ok in
    record {
      going_on = passes.going_on;
      unclaimed = passes.unclaimed;
      acting = same_seat-eq seat (actor_of play.contract (turn_of play.contract play.cards)) passes.acting;
      legal = card_legal play seat card legal ok;
    }

-- a card that may be played is answered by Ok
may_ok : (play : PlayValue) (seat : Seat) (card : ℕ) → MayBePlayed play seat card → card_answer play seat card ≡ Ok (tt {0})
may_ok play seat card may =
    let hand : Seat = turn_of play.contract play.cards in
    let actor : Seat = actor_of play.contract hand in
    let last = may_follow_front (MayPlay play.hands play.contract) play.cards card [] may.legal in
    passes_ok (is_over play) (is_some play.claim) (same_seat seat actor)
    (holds play.hands play.cards hand card) (follows play.hands play.cards hand card)
    (record {
      going_on = may.going_on;
      unclaimed = may.unclaimed;
      acting = ap (λ (s : Seat). same_seat s actor) may.acting ∙ same_seat-self actor;
      held = last.held;
      following = last.following;
    })

pub answer_accepts : (play : PlayValue) (seat : Seat) (card : ℕ) (answer : Result (Unit {0}) CardRefused) → IsLegal play.hands play.contract play.cards → answer ≡ card_answer play seat card → (IsOk answer ↔ MayBePlayed play seat card)
answer_accepts play seat card (Ok u) legal is = (λ ok. ok_may play seat card legal (rw (← is) refl), λ may. refl)
answer_accepts play seat card (Err refused) legal is = (
  λ ok. cc,
  λ may. let contrary : card_answer play seat card ≡ Ok (tt {0}) = may_ok play seat card may in cc,
)

-- what holds of an Ok
pub ok_gives : {T E : Type 0} (r : Result T E) (P : Type 0) → OnOk r P → IsOk r → P
ok_gives (Ok v) P gives ok = gives
ok_gives (Err e) P gives ok = cc
