-- The highest card left of its suit beats the others, where it is a trump or no other hand has one.
use Rattle.std.proofs.Common.{◌≡◌, ℕ, ◌<◌, ◌⊎◌, inl, inr, Bool, true, false, not, ◌&&◌, List, Option, Some, None, IfSome, refl, sym, ap, ◌∙◌, arith}
use Rattle.std.proofs.lemmas.Bool.{and_parts}
use Rattle.std.proofs.lemmas.Bool.Decides.{nat_tests}
use Rattle.bridge_cards.specs.declared.suit.Suit.{Suit}
use Rattle.bridge_cards.specs.declared.seat.Seat.{Seat}
use Rattle.bridge_cards.specs.Seat.{clockwise_from, same_seat}
use Rattle.bridge_cards.specs.Card.{same_suit}
use Rattle.bridge_cards.specs.CardSet.{has_card, is_of_suit}
use Rattle.bridge_cards.specs.Trick.{is_trump, is_or_beats}
use Rattle.bridge_endings.specs.Agree.{IsDealtOut}
use Rattle.bridge_endings.specs.Worth.{dealt}
use Rattle.bridge_endings.specs.Left.{left_to}
use Rattle.bridge_endings.specs.Sure.{EachHasSome, IsSure, IsHighest}
use Rattle.bridge_endings.proofs.Seats.{first_place, other_place}

-- a card of its suit that is not higher
not_higher : (trump : Option Suit) (card other : ℕ) → same_suit other card ≡ true → (card < other → ⊥) → is_or_beats trump card card other ≡ true
not_higher trump card other suited not_above = grind (arith, nat_tests)

-- a card of another suit too, where it is no trump or the suit is trumps
pub no_ruff : (trump : Option Suit) (card other : ℕ) → (same_suit other card ≡ true → card < other → ⊥) → (is_trump trump other ≡ false) ⊎ (is_trump trump card ≡ true) → is_or_beats trump card card other ≡ true
no_ruff trump card other not_above (inl none) = grind (arith, nat_tests)
no_ruff None card other not_above (inr is) = cc
no_ruff (Some suit) card other not_above (inr is) = grind (arith, nat_tests)

pub left_not_in_hand : (is_left in_hand : Bool) → is_left ≡ true → in_hand ≡ false → (is_left && not in_hand) ≡ true
left_not_in_hand true true p q = cc
left_not_in_hand true false p q = refl
left_not_in_hand false in_hand p q = cc

module _ (hands : List ℕ) (trump : Option Suit) (left : ℕ) (out : IsDealtOut (left_to hands left)) (hand partner others : ℕ) (leader mate : Seat) (across : mate ≡ clockwise_from leader 2) (holds : (card : ℕ) → has_card hand card ≡ left_to hands left leader card) (holds_too : (card : ℕ) → has_card partner card ≡ left_to hands left mate card) (rest : (card : ℕ) → has_card others card ≡ (has_card left card && not (has_card hand card))) (each : EachHasSome (left_to hands left) leader) where
  is_left : (seat : Seat) (card : ℕ) → left_to hands left seat card ≡ true → has_card left card ≡ true
  is_left seat card has = (and_parts (dealt hands seat card) (has_card left card) has).1

  -- what another seat holds is among the others
  among_others : (index : ℕ) → 0 < index → index < 4 → (card : ℕ) → left_to hands left (clockwise_from leader index) card ≡ true → has_card others card ≡ true
  among_others index some few card has =
      let seat : Seat = clockwise_from leader index in
      let differs : same_seat leader seat ≡ false = ap (λ (s : Seat). same_seat s seat) (sym (first_place leader)) ∙ other_place leader index 0 few (omega arith) (λ e. omega arith) in
      rest card ∙ left_not_in_hand (has_card left card) (has_card hand card) (is_left seat card has) (holds card ∙ out.once seat card has leader differs)

  pub sure_highest : (card : ℕ) → IsHighest hand partner left card → ((other : ℕ) → has_card others other ≡ true → is_trump trump other ≡ false) ⊎ (is_trump trump card ≡ true) → (led : ℕ) × IsSure trump (left_to hands left) leader card led
  sure_highest card is trumps = (
    is.lead.0,
    record {
      holder = holder is.holder;
      has_led = has_led;
      suit = is.lead.2;
      not_above = not_higher trump card is.lead.0 is.lead.2 (not_above leader is.lead.0 has_led is.lead.2);
      others = each;
      beats_each = λ index some few other there.
          no_ruff trump card other (not_above (clockwise_from leader index) other there) (not_trump index some few other there trumps);
    },
  )
    where
      has_led : left_to hands left leader is.lead.0 ≡ true
      has_led = sym (holds is.lead.0) ∙ is.lead.1

      holder : (has_card hand card ≡ true) ⊎ (has_card partner card ≡ true) → (left_to hands left leader card ≡ true) ⊎ (left_to hands left (clockwise_from leader 2) card ≡ true)
      holder (inl own) = inl (sym (holds card) ∙ own)
      holder (inr partners) = inr (ap (λ (s : Seat). left_to hands left s card) (sym across) ∙ sym (holds_too card) ∙ partners)

      not_above : (seat : Seat) (other : ℕ) → left_to hands left seat other ≡ true → same_suit other card ≡ true → card < other → ⊥
      not_above seat other has suited higher = let gone = is.highest other suited higher in let there = is_left seat other has in cc

      not_trump : (index : ℕ) → 0 < index → index < 4 → (other : ℕ) → left_to hands left (clockwise_from leader index) other ≡ true → ((c : ℕ) → has_card others c ≡ true → is_trump trump c ≡ false) ⊎ (is_trump trump card ≡ true) → (is_trump trump other ≡ false) ⊎ (is_trump trump card ≡ true)
      not_trump index some few other there (inl none) = inl (none other (among_others index some few other there))
      not_trump index some few other there (inr is_trump_too) = inr is_trump_too

  -- no other hand has a trump
  pub sure_without_trumps : (card : Option ℕ) → IfSome card (IsHighest hand partner left) → ((other : ℕ) → has_card others other ≡ true → is_trump trump other ≡ false) → IfSome card (λ c. (led : ℕ) × IsSure trump (left_to hands left) leader c led)
  sure_without_trumps None is none = tt
  sure_without_trumps (Some card) is none = sure_highest card is (inl none)

  -- the card is of the trump suit
  pub sure_trump : (suit : Suit) (card : Option ℕ) → trump ≡ Some suit → IfSome card (IsHighest hand partner left) → IfSome card (λ c. is_of_suit suit c ≡ true) → IfSome card (λ c. (led : ℕ) × IsSure trump (left_to hands left) leader c led)
  sure_trump suit None trumps is suited = tt
  sure_trump suit (Some card) trumps is suited = sure_highest card is (inr (ap (λ t. is_trump t card) trumps ∙ suited))
