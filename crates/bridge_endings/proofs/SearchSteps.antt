-- The answers of the search: of a position by those after its cards, and after a card by that of what is left.
use Rattle.std.proofs.Common.{◌≡◌, ℕ, ◌+◌, ◌-◌, ◌*◌, ◌<◌, ◌≤◌, ◌⊎◌, inl, inr, Bool, true, false, ◌==◌, nat_le, List, [], length, Option, arith}
use Rattle.std.proofs.lemmas.Bool.{cases_lt, lt-leb, eq-eqb, ne_eqb, cond-true, cond-false}
use Rattle.std.proofs.lemmas.Bool.Decides.{nat_tests}
use Rattle.bridge_cards.specs.declared.suit.Suit.{Suit}
use Rattle.bridge_cards.specs.declared.seat.Seat.{Seat}
use Rattle.bridge_cards.specs.Seat.{side_of}
use Rattle.bridge_cards.specs.CardSet.{IsCardSet, has_card}
use Rattle.bridge_cards.specs.Trick.{next_leader}
use Rattle.bridge_cards.proofs.CardSetLaws.{has_card-beyond}
use Rattle.bridge_endings.specs.Worth.{trick_for, worth_after, worth_with}
use Rattle.bridge_endings.proofs.WorthSteps.{worth_with_le}

-- a card of a set is one of the deck
pub inside_deck : (cards card : ℕ) → IsCardSet cards → has_card cards card ≡ true → card < 52
inside_deck cards card set has = at (cases_lt card 52)
  where
    at : (card < 52) ⊎ (52 ≤ card) → card < 52
    at (inl inside) = inside
    at (inr beyond) = let lacks = has_card-beyond cards card set beyond in absurd (cc)

-- of nothing won only nothing is reached
pub zero_worth : (need worth : ℕ) → worth ≡ 0 → (need == 0) ≡ nat_le need worth
zero_worth need worth e = grind (arith, nat_tests)

-- no more tricks are reached than are left
pub too_many_left : (trump : Option Suit) (tricks need : ℕ) (held : Seat → ℕ → Bool) (leader : Seat) (trick : List ℕ) → length trick ≡ 0 → tricks < need → nat_le need (worth_with trump (4 * tricks) held leader trick) ≡ false
too_many_left trump tricks need held leader trick empty more =
    lt-leb need (worth_with trump (4 * tricks) held leader trick) (omega (arith, more, worth_with_le trump (4 * tricks) held leader trick (omega (arith, empty)), empty))

-- ---- after a card

pub need_less : (need won worth : ℕ) → nat_le (need - won) worth ≡ nat_le need (won + worth)
need_less need won worth = grind (arith, nat_tests)

module _ (trump : Option Suit) (worth : (Seat → ℕ → Bool) → Seat → List ℕ → ℕ) (held : Seat → ℕ → Bool) (leader : Seat) (trick : List ℕ) where
  pub worth_after-part : length trick < 4 → worth_after trump worth held leader trick ≡ worth held leader trick
  worth_after-part part = cond-false (length trick == 4) _ _ (ne_eqb (length trick) 4 (λ e. omega arith))

  pub worth_after-whole : length trick ≡ 4 → worth_after trump worth held leader trick ≡ trick_for (side_of (next_leader trump leader trick)) + worth held (next_leader trump leader trick) []
  worth_after-whole whole = cond-true (length trick == 4) _ _ (eq-eqb (length trick) 4 whole)
