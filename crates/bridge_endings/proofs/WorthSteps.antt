-- The worth, a card and a trick at a time.
use Rattle.std.proofs.Common.{◌≡◌, ℕ, zero, suc, ◌+◌, ◌-◌, ◌*◌, ◌<◌, ◌≤◌, ◌⊎◌, inl, inr, Bool, true, false, not, ◌&&◌, ◌==◌, nat_le, List, [], ◌∷◌, ◌++◌, length, map, Option, refl, sym, ap, ◌∙◌, arith, length-append}
use Rattle.std.proofs.Math.Path.{fun_ext}
use Rattle.std.proofs.lemmas.Bool.{cases_eq, eq-eqb, ne_eqb, lt-leb}
use Rattle.bridge_cards.specs.declared.suit.Suit.{Suit}
use Rattle.bridge_cards.specs.declared.seat.Seat.{Seat}
use Rattle.bridge_cards.specs.declared.seat.Side.{Side}
use Rattle.bridge_cards.specs.declared.seat.Side.TheVariants.{NorthSouth, EastWest}
use Rattle.bridge_cards.specs.Seat.{clockwise_from, side_of}
use Rattle.bridge_cards.specs.CardSet.{has_card}
use Rattle.bridge_cards.specs.Deal.{hand_at}
use Rattle.bridge_cards.specs.Trick.{next_leader}
use Rattle.bridge_endings.specs.Worth.{legal_cards, after_playing, better, best_from, best, trick_for, worth_after, worth_with}
use Rattle.bridge_endings.specs.Left.{left_to}

-- the worth after a card of the hand in turn, where so many cards are left then
abbrev pub worth_of_card : Option Suit → ℕ → (Seat → ℕ → Bool) → Seat → List ℕ → ℕ → ℕ
worth_of_card trump cards held leader trick card =
    worth_after trump (worth_with trump cards) (after_playing card held) leader (trick ++ card ∷ [])

pub worth_with-suc : (trump : Option Suit) (cards : ℕ) (held : Seat → ℕ → Bool) (leader : Seat) (trick : List ℕ) → worth_with trump (suc cards) held leader trick ≡ best (side_of (clockwise_from leader (length trick))) (map (worth_of_card trump cards held leader trick) (legal_cards (held (clockwise_from leader (length trick))) trick))
unfolding worth_with
worth_with-suc trump cards held leader trick = refl

-- ---- no more than the tricks left

better_le : (side : Side) (one other bound : ℕ) → 4 * one ≤ bound → 4 * other ≤ bound → 4 * better side one other ≤ bound
better_le NorthSouth one other bound p q = omega arith
better_le EastWest one other bound p q = omega arith

module _ (worth : ℕ → ℕ) (bound : ℕ) (each : (card : ℕ) → 4 * worth card ≤ bound) where
  best_from_le : (side : Side) (first : ℕ) (cards : List ℕ) → 4 * first ≤ bound → 4 * best_from side first (map worth cards) ≤ bound
  best_from_le side first [] p = p
  best_from_le side first (card ∷ cards) p =
      best_from_le side (better side first (worth card)) cards (better_le side first (worth card) bound p (each card))

  best_le : (side : Side) (cards : List ℕ) → 4 * best side (map worth cards) ≤ bound
  best_le side [] = omega arith
  best_le side (card ∷ cards) = best_from_le side (worth card) cards (each card)

pub trick_for_le : (side : Side) → trick_for side ≤ 1
trick_for_le NorthSouth = omega arith
trick_for_le EastWest = omega arith

pub worth_zero : (trump : Option Suit) (held : Seat → ℕ → Bool) (leader : Seat) (trick : List ℕ) → worth_with trump zero held leader trick ≡ 0
unfolding worth_with
worth_zero trump held leader trick = refl

pub worth_with_le : (trump : Option Suit) (cards : ℕ) (held : Seat → ℕ → Bool) (leader : Seat) (trick : List ℕ) → length trick < 4 → 4 * worth_with trump cards held leader trick ≤ cards + length trick
worth_with_le trump zero held leader trick part = omega (arith, worth_zero trump held leader trick)
worth_with_le trump (suc cards) held leader trick part =
    let bound : ℕ = suc cards + length trick in
    let each = λ (card : ℕ). at card (worth_with_le trump cards) (cases_eq (length (trick ++ card ∷ [])) 4) in
    let seat = clockwise_from leader (length trick) in
    rw (worth_with-suc trump cards held leader trick) (best_le (worth_of_card trump cards held leader trick) bound each (side_of seat) (legal_cards (held seat) trick))
  where
    at : (card : ℕ) → ((h : Seat → ℕ → Bool) (l : Seat) (t : List ℕ) → length t < 4 → 4 * worth_with trump cards h l t ≤ cards + length t)
        → (length (trick ++ card ∷ []) ≡ 4) ⊎ (length (trick ++ card ∷ []) ≡ 4 → ⊥)
        → 4 * worth_of_card trump cards held leader trick card ≤ suc cards + length trick
    at card rest (inl whole) =
        let winner = next_leader trump leader (trick ++ card ∷ []) in
        rw (eq-eqb (length (trick ++ card ∷ [])) 4 whole)
        (omega (arith, whole, length-append trick (card ∷ []), trick_for_le (side_of winner), rest (after_playing card held) winner [] (omega arith)))
    at card rest (inr more) =
        rw (ne_eqb (length (trick ++ card ∷ [])) 4 more)
        (omega (arith, length-append trick (card ∷ []), rest (after_playing card held) leader (trick ++ card ∷ []) (omega (arith, more, length-append trick (card ∷ [])))))

-- what is known at the start of a trick: more tricks than are left are never reached
pub too_many : (trump : Option Suit) (tricks need : ℕ) (held : Seat → ℕ → Bool) (leader : Seat) (trick : List ℕ) → length trick ≡ 0 → tricks < need → (need == 0) ≡ nat_le need (worth_with trump (4 * tricks - length trick) held leader trick)
too_many trump tricks need held leader trick empty more =
    let few = worth_with_le trump (4 * tricks - length trick) held leader trick (omega arith) in
    ne_eqb need 0 (λ e. omega arith) ∙ sym (lt-leb need (worth_with trump (4 * tricks - length trick) held leader trick) (omega (arith, few)))

-- ---- the cards left, and one of them played

without_one : (dealt left one : Bool) → (dealt && (left && not one)) ≡ ((dealt && left) && not one)
without_one true left one = refl
without_one false left one = refl

pub after_playing-left_to : (hands : List ℕ) (left rest card : ℕ) → ((other : ℕ) → has_card rest other ≡ (has_card left other && not (other == card))) → left_to hands rest ≡ after_playing card (left_to hands left)
after_playing-left_to hands left rest card without =
    fun_ext {B = λ _. ℕ → Bool} (λ seat. fun_ext {B = λ _. Bool} (λ other.
    ap (λ is. has_card (hand_at hands seat) other && is) (without other)
    ∙ without_one (has_card (hand_at hands seat) other) (has_card left other) (other == card)))
