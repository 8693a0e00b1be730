-- Top trumps at each position that agrees with this one in the cards that count, and so what is settled by them.
use Rattle.std.proofs.Common.{◌≡◌, ℕ, ◌+◌, ◌*◌, ◌/◌, ◌<◌, Bool, true, false, ◌&&◌, ◌||◌, ◌==◌, count_by, [], ◌∷◌, Option, refl, sym, ap, ◌∙◌, arith}
use Rattle.std.proofs.Math.Path.{fun_ext}
use Rattle.std.proofs.lemmas.Bool.Decides.{nat_tests}
use Rattle.bridge_cards.specs.declared.suit.Suit.{Suit}
use Rattle.bridge_cards.specs.declared.seat.Seat.{Seat}
use Rattle.bridge_cards.specs.Seat.{side_of}
use Rattle.bridge_cards.specs.Card.{same_suit}
use Rattle.bridge_cards.specs.CardSet.{deck}
use Rattle.bridge_cards.proofs.CardCounts.{count_either}
use Rattle.bridge_endings.specs.Left.{is_sought}
use Rattle.bridge_endings.specs.Agree.{IsDealtOut, IsUpward, Agree, Settles}
use Rattle.bridge_endings.specs.Trumps.{held_of, HasEach, IsSettledBy, AreTopTrumps}
use Rattle.bridge_endings.proofs.Counting.{count_parts, counted_alike}
use Rattle.bridge_endings.proofs.TopTrumps.{settled_more, tops_win}

-- ---- how many cards a hand has, by its suits

-- how many of the cards are of the suit of that one
abbrev suit_count : (ℕ → Bool) → ℕ → ℕ
suit_count cards led = count_by (λ card. cards card && same_suit card led) deck

four_suits : (suit : ℕ) → suit < 4 → ((suit == 0) || ((suit == 1) || ((suit == 2) || (suit == 3)))) ≡ true
four_suits suit few = grind (arith, nat_tests)

in_one : (has some : Bool) → (has ≡ true → some ≡ true) → has ≡ (has && some)
in_one true some all = sym (all refl)
in_one false some all = refl

split_and : (has a b : Bool) → (has && (a || b)) ≡ ((has && a) || (has && b))
split_and true a b = refl
split_and false a b = refl

apart_and : (has a b : Bool) → (a && b) ≡ false → ((has && a) && (has && b)) ≡ false
apart_and true a b none = none
apart_and false a b none = refl

not_zero : (suit : ℕ) → ((suit == 0) && ((suit == 1) || ((suit == 2) || (suit == 3)))) ≡ false
not_zero suit = grind (arith, nat_tests)

not_one : (suit : ℕ) → ((suit == 1) && ((suit == 2) || (suit == 3))) ≡ false
not_one suit = grind (arith, nat_tests)

not_two : (suit : ℕ) → ((suit == 2) && (suit == 3)) ≡ false
not_two suit = grind (arith, nat_tests)

count_by_suits : (hand : ℕ → Bool) → ((card : ℕ) → hand card ≡ true → card < 52) → count_by hand deck ≡ suit_count hand 0 + (suit_count hand 13 + (suit_count hand 26 + suit_count hand 39))
count_by_suits hand inside =
    let suit : ℕ → ℕ = λ card. card / 13 in
    let all : (card : ℕ) → hand card ≡ ((hand card && (suit card == 0)) || (hand card && ((suit card == 1) || ((suit card == 2) || (suit card == 3))))) = λ card.
    in_one (hand card) ((suit card == 0) || ((suit card == 1) || ((suit card == 2) || (suit card == 3)))) (λ has. four_suits (suit card) (omega (arith, inside card has)))
    ∙ split_and (hand card) (suit card == 0) ((suit card == 1) || ((suit card == 2) || (suit card == 3))) in
    omega (
      arith,
      count_either (λ card. hand card && (suit card == 0)) (λ card. hand card && ((suit card == 1) || ((suit card == 2) || (suit card == 3)))) hand all (λ card. apart_and (hand card) (suit card == 0) _ (not_zero (suit card))) deck,
      count_either (λ card. hand card && (suit card == 1)) (λ card. hand card && ((suit card == 2) || (suit card == 3))) (λ card. hand card && ((suit card == 1) || ((suit card == 2) || (suit card == 3))))
          (λ card. split_and (hand card) (suit card == 1) ((suit card == 2) || (suit card == 3))) (λ card. apart_and (hand card) (suit card == 1) _ (not_one (suit card))) deck,
      count_either (λ card. hand card && (suit card == 2)) (λ card. hand card && (suit card == 3)) (λ card. hand card && ((suit card == 2) || (suit card == 3)))
          (λ card. split_and (hand card) (suit card == 2) (suit card == 3)) (λ card. apart_and (hand card) (suit card == 2) _ (not_two (suit card))) deck,
    )

-- ---- positions that agree

module _ (counts : ℕ → Bool) (held other : Seat → ℕ → Bool) (out : IsDealtOut held) (out_too : IsDealtOut other) (same : Agree counts held other) where
  length_same : (seat : Seat) (led : ℕ) → led < 52 → suit_count (held seat) led ≡ suit_count (other seat) led
  length_same seat led inside =
      omega (arith, count_parts (held seat) counts led, count_parts (other seat) counts led, same.small seat led inside, counted_alike counts held other same.high seat led)

  pub all_same : (seat : Seat) → count_by (held seat) deck ≡ count_by (other seat) deck
  all_same seat =
      omega (
        arith,
        count_by_suits (held seat) (out.inside seat),
        count_by_suits (other seat) (out_too.inside seat),
        length_same seat 0 (omega arith),
        length_same seat 13 (omega arith),
        length_same seat 26 (omega arith),
        length_same seat 39 (omega arith),
      )

  pub counted_same : (seat : Seat) → held_of counts (held seat) ≡ held_of counts (other seat)
  counted_same seat = ap (λ p. count_by p deck) (fun_ext {B = λ _. Bool} (λ card. at card (counts card) refl))
    where
      at : (card : ℕ) (is : Bool) → counts card ≡ is → (counts card && held seat card) ≡ (counts card && other seat card)
      at card true is = ap (λ b. counts card && b) (same.high seat card is)
      at card false is = ap (λ b. b && held seat card) is ∙ sym (ap (λ b. b && other seat card) is)

-- what top trumps settle, whoever leads
pub trumps_settle : (trump : Option Suit) (tops : ℕ → Bool) → IsUpward tops → (held : Seat → ℕ → Bool) → IsDealtOut held → (seat : Seat) (won : ℕ) → AreTopTrumps trump tops held seat won → (tricks need : ℕ) → HasEach held tricks → IsSettledBy (side_of seat) won tricks need → (leader : Seat)
    → Settles trump (4 * tricks) need tops (is_sought (side_of seat)) held leader []
trumps_settle trump tops upward held out seat won are tricks need each settled leader other out_too [] same same_trick =
    tops_win trump tops upward are.trumps seat tricks other out_too
    (λ s theirs card top. sym (same.high s card top) ∙ are.none s theirs card top)
    (λ s. sym (all_same tops held other out out_too same s) ∙ each s)
    leader need
    (settled_more (side_of seat) won (held_of tops (other seat)) tricks need (omega (arith, are.many, counted_same tops held other out out_too same seat)) settled)
trumps_settle trump tops upward held out seat won are tricks need each settled leader other out_too (c ∷ played) same same_trick = absurd (omega (arith, same_trick.long))
