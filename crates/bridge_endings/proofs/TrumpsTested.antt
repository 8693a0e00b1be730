-- What the tests of top trumps tell, and the answer that they give.
use Rattle.std.proofs.Common.{◌≡◌, ℕ, ◌*◌, ◌/◌, ◌≤◌, ◌⊎◌, inl, inr, Bool, true, false, ◌&&◌, ◌||◌, nat_le, count_by, List, [], Option, Some, refl, sym, ap, ◌∙◌, arith}
use Rattle.std.proofs.Math.Path.{fun_ext}
use Rattle.std.proofs.lemmas.Bool.{eqb-true, eq-eqb, and_parts}
use Rattle.bridge_cards.specs.declared.suit.Suit.{Suit}
use Rattle.bridge_cards.specs.declared.seat.Seat.{Seat}
use Rattle.bridge_cards.specs.declared.seat.Seat.TheVariants.{North, East, South, West}
use Rattle.bridge_cards.specs.Suit.{suit_number}
use Rattle.bridge_cards.specs.Seat.{clockwise_from, side_of, plays_for}
use Rattle.bridge_cards.specs.Card.{same_suit}
use Rattle.bridge_cards.specs.CardSet.{has_card, is_of_suit, deck, card_count}
use Rattle.bridge_endings.specs.Left.{left_to, is_sought}
use Rattle.bridge_endings.specs.Agree.{IsDealtOut, IsUpward}
use Rattle.bridge_endings.specs.SearchValue.{IsAnswer}
use Rattle.bridge_endings.specs.Trumps.{NoneOfTheirs, HasEach, IsSettledBy, AreTopTrumps}
use Rattle.bridge_endings.proofs.TrumpsThere.{trumps_settle}

-- the cards of a set, counted
pub counted : (cards : ℕ) → count_by (has_card cards) deck ≡ card_count cards
unfolding card_count
counted cards = refl

-- an opponent sits at either side
theirs_place : (seat other : Seat) → plays_for (side_of seat) other ≡ false → (clockwise_from seat 1 ≡ other) ⊎ (clockwise_from seat 3 ≡ other)
theirs_place North North theirs = absurd (cc)
theirs_place North East theirs = inl refl
theirs_place North South theirs = absurd (cc)
theirs_place North West theirs = inr refl
theirs_place East North theirs = inr refl
theirs_place East East theirs = absurd (cc)
theirs_place East South theirs = inl refl
theirs_place East West theirs = absurd (cc)
theirs_place South North theirs = absurd (cc)
theirs_place South East theirs = inr refl
theirs_place South South theirs = absurd (cc)
theirs_place South West theirs = inl refl
theirs_place West North theirs = inl refl
theirs_place West East theirs = absurd (cc)
theirs_place West South theirs = inr refl
theirs_place West West theirs = absurd (cc)

neither : (a b c : Bool) → ((a || b) && c) ≡ false → c ≡ true → (a ≡ false) × (b ≡ false)
neither true b true none is = absurd (cc)
neither false true true none is = absurd (cc)
neither false false c none is = (refl, refl)
neither true b false none is = absurd (cc)
neither false true false none is = absurd (cc)

-- where neither of their hands has one of the cards
pub none_theirs : (hands : List ℕ) (left : ℕ) (seat : Seat) (cards next last theirs common : ℕ)
    → ((card : ℕ) → has_card next card ≡ left_to hands left (clockwise_from seat 1) card) → ((card : ℕ) → has_card last card ≡ left_to hands left (clockwise_from seat 3) card)
    → ((card : ℕ) → has_card theirs card ≡ (has_card next card || has_card last card)) → ((card : ℕ) → has_card common card ≡ (has_card theirs card && has_card cards card))
    → ((card : ℕ) → has_card common card ≡ false) → NoneOfTheirs (has_card cards) (left_to hands left) seat
none_theirs hands left seat cards next last theirs common nexts lasts unions commons empty other not_ours card top =
    let both : ((has_card next card || has_card last card) && has_card cards card) ≡ false = ap (λ b. b && has_card cards card) (sym (unions card)) ∙ sym (commons card) ∙ empty card in
    let none = neither (has_card next card) (has_card last card) (has_card cards card) both top in
    at none.0 none.1 (theirs_place seat other not_ours)
  where
    at : has_card next card ≡ false → has_card last card ≡ false → (clockwise_from seat 1 ≡ other) ⊎ (clockwise_from seat 3 ≡ other) → left_to hands left other card ≡ false
    at none _ (inl here) = ap (λ (s : Seat). left_to hands left s card) (sym here) ∙ sym (nexts card) ∙ none
    at _ none (inr here) = ap (λ (s : Seat). left_to hands left s card) (sym here) ∙ sym (lasts card) ∙ none

of_suit_too : (suit : Suit) (a b : ℕ) → is_of_suit suit a ≡ true → same_suit a b ≡ true → is_of_suit suit b ≡ true
of_suit_too suit a b is same = eq-eqb (b / 13) (suit_number suit) (sym (eqb-true (a / 13) (b / 13) same) ∙ eqb-true (a / 13) (suit_number suit) is)

-- the trumps from one on that a seat has enough of
pub tops_are : (hands : List ℕ) (left : ℕ) (seat : Seat) (trump : Suit) (won lowest tops own suited common : ℕ) → ((card : ℕ) → has_card suited card ≡ (has_card own card && is_of_suit trump card)) → has_card suited lowest ≡ true
    → ((other : ℕ) → has_card tops other ≡ (same_suit lowest other && nat_le lowest other)) → NoneOfTheirs (has_card tops) (left_to hands left) seat
    → ((card : ℕ) → has_card own card ≡ left_to hands left seat card) → ((card : ℕ) → has_card common card ≡ (has_card tops card && has_card own card)) → won ≤ card_count common
    → AreTopTrumps (Some trump) (has_card tops) (left_to hands left) seat won
tops_are hands left seat trump won lowest tops own suited common suits has upwards none owns commons enough = record {
  trumps = λ card top.
      let same = (and_parts (same_suit lowest card) (nat_le lowest card) (sym (upwards card) ∙ top)).0 in
      of_suit_too trump lowest card ((and_parts (has_card own lowest) (is_of_suit trump lowest) (sym (suits lowest) ∙ has)).1) same;
  none = none;
  many = omega (
    arith,
    enough,
    counted common,
    ap (λ p. count_by p deck) (fun_ext {B = λ _. Bool} (λ card. commons card ∙ ap (λ b. has_card tops card && b) (owns card))),
  );
}

pub each_seat : (held : Seat → ℕ → Bool) (tricks : ℕ) → (count_by (held North) deck ≡ tricks) × (count_by (held East) deck ≡ tricks) × (count_by (held South) deck ≡ tricks) × (count_by (held West) deck ≡ tricks) → HasEach held tricks
each_seat held tricks each North = each.0
each_seat held tricks each East = each.1
each_seat held tricks each South = each.2
each_seat held tricks each West = each.3

-- the answer by them
pub trumps_answer : (hands : List ℕ) (left : ℕ) → IsDealtOut (left_to hands left) → (trump : Option Suit) (suit : Suit) → trump ≡ Some suit → (seat : Seat) (won counts best : ℕ) → IsUpward (has_card counts) → AreTopTrumps (Some suit) (has_card counts) (left_to hands left) seat won
    → (tricks need : ℕ) → (count_by (left_to hands left North) deck ≡ tricks) × (count_by (left_to hands left East) deck ≡ tricks) × (count_by (left_to hands left South) deck ≡ tricks) × (count_by (left_to hands left West) deck ≡ tricks)
    → IsSettledBy (side_of seat) won tricks need → (reached : Bool) → reached ≡ is_sought (side_of seat) → (leader : Seat) → IsAnswer trump (4 * tricks) need (record { yes = reached; counts = counts; best = best }) (left_to hands left) leader []
trumps_answer hands left out trump suit is seat won counts best upward are tricks need each settled reached sought leader = record {
  upward = upward;
  settled = rw (is, sought) (trumps_settle (Some suit) (has_card counts) upward (left_to hands left) out seat won are tricks need (each_seat (left_to hands left) tricks each) settled leader);
}
