-- Two tricks that agree: where the winner's rank counts, or no other card is of its suit, the same seat wins both.
use Rattle.std.proofs.Common.{◌≡◌, ◌≢◌, ℕ, ◌<◌, ◌≤◌, ◌⊎◌, inl, inr, Bool, true, false, not, ◌&&◌, ◌||◌, ◌==◌, ◌/◌, nat_lt, List, length, get_or, Option, Some, None, refl, sym, ap, ◌∙◌, arith}
use Rattle.std.proofs.lemmas.Bool.{cases_eq, cases_lt, eqb-true, eq-eqb}
use Rattle.std.proofs.lemmas.Bool.Decides.{nat_tests}
use Rattle.std.proofs.lemmas.List.Sums.{AllPass-from_list_all, list_all-from_AllPass}
use Rattle.std.proofs.lemmas.List.{get_or_default}
use Rattle.bridge_cards.specs.declared.suit.Suit.{Suit}
use Rattle.bridge_cards.specs.declared.seat.Seat.{Seat}
use Rattle.bridge_cards.specs.Seat.{clockwise_from}
use Rattle.bridge_cards.specs.Card.{same_suit}
use Rattle.bridge_cards.specs.Trick.{is_trump, beats, is_or_beats, wins, next_leader}
use Rattle.bridge_endings.specs.TrickValue.{IsWinning}
use Rattle.bridge_endings.specs.Agree.{IsUpward, AreAlike, AgreeTrick, IsRanked}
use Rattle.bridge_endings.proofs.Winning.{winning_is, asymmetric}
use Rattle.bridge_endings.proofs.Agreeing.{suit_back, alike_suit}

-- ---- how cards compare, by their suits

-- only the suit of the card led matters
same_led : (trump : Option Suit) (led first a b : ℕ) → same_suit led first ≡ true → is_or_beats trump led a b ≡ is_or_beats trump first a b
same_led trump led first a b suit =
    ap (λ n. (a == b) || ((same_suit a b && nat_lt b a) || ((is_trump trump a && not (is_trump trump b)) || ((a / 13 == n) && (not (b / 13 == n) && not (is_trump trump b)))))) (eqb-true (led / 13) (first / 13) suit)

-- cards of two suits
by_suits : (trump : Option Suit) (led a b c d : ℕ) → same_suit a c ≡ true → same_suit b d ≡ true → same_suit b a ≡ false → is_or_beats trump led a b ≡ is_or_beats trump led c d
by_suits None led a b c d p q r = grind (arith, nat_tests)
by_suits (Some suit) led a b c d p q r = grind (arith, nat_tests)

-- a card of a suit, and two of one suit below it
above_both : (trump : Option Suit) (led a b d : ℕ) → same_suit b d ≡ true → same_suit b a ≡ true → b < a → d < a → is_or_beats trump led a b ≡ is_or_beats trump led a d
above_both None led a b d p q r s = grind (arith, nat_tests)
above_both (Some suit) led a b d p q r s = grind (arith, nat_tests)

below_both : (trump : Option Suit) (led a b d : ℕ) → same_suit b d ≡ true → same_suit b a ≡ true → b < a → d < a → is_or_beats trump led b a ≡ is_or_beats trump led d a
below_both None led a b d p q r s = grind (arith, nat_tests)
below_both (Some suit) led a b d p q r s = grind (arith, nat_tests)

-- of two cards that are or beat each other
one_card : (trump : Option Suit) (led a b : ℕ) → is_or_beats trump led a b ≡ true → is_or_beats trump led b a ≡ true → a ≡ b
one_card trump led a b does back = at (a == b) refl
  where
    at : (is : Bool) → (a == b) ≡ is → a ≡ b
    at true is = eqb-true a b is
    at false is = let never = asymmetric trump led a b (sym (ap (λ e. e || beats trump led a b) is) ∙ does) in cc

module _ (trump : Option Suit) (counts : ℕ → Bool) (upward : IsUpward counts) where
  -- a card that does not count is below one of its suit that does
  pub low : (w x : ℕ) → counts w ≡ true → counts x ≡ false → same_suit w x ≡ true → x < w
  low w x does not suit = at (cases_lt x w) (cases_eq x w)
    where
      at : (x < w) ⊎ (w ≤ x) → (x ≡ w) ⊎ (x ≡ w → ⊥) → x < w
      at (inl less) _ = less
      at (inr more) (inl same) = let never = sym not ∙ ap counts same ∙ does in cc
      at (inr more) (inr differ) = let never = sym not ∙ upward w x suit (omega (arith, more, differ)) does in cc

  -- two cards alike compare alike with a card that counts
  pub counted_above : (led w x y : ℕ) → counts w ≡ true → AreAlike counts x y → is_or_beats trump led w x ≡ is_or_beats trump led w y
  counted_above led w x y does (inl same) = ap (is_or_beats trump led w) same
  counted_above led w x y does (inr small) = at (same_suit x w) refl
    where
      at : (is : Bool) → same_suit x w ≡ is → is_or_beats trump led w x ≡ is_or_beats trump led w y
      at true is =
          let y_suit : same_suit y w ≡ true = ap (λ n. n == (w / 13)) (sym (eqb-true (x / 13) (y / 13) small.0)) ∙ is in
          above_both trump led w x y small.0 is (low w x does small.1 (suit_back x w is)) (low w y does small.2 (suit_back y w y_suit))
      at false is = by_suits trump led w x w y (eq-eqb (w / 13) (w / 13) refl) small.0 is

  counted_below : (led w x y : ℕ) → counts w ≡ true → AreAlike counts x y → is_or_beats trump led x w ≡ is_or_beats trump led y w
  counted_below led w x y does (inl same) = ap (λ c. is_or_beats trump led c w) same
  counted_below led w x y does (inr small) = at (same_suit x w) refl
    where
      flip : (a b : ℕ) → same_suit a b ≡ false → same_suit b a ≡ false
      flip a b p = elim (same_suit b a) as (λ is. same_suit b a ≡ is → same_suit b a ≡ false) [
        | true ↦ λ is. let never = suit_back b a is in cc
        | false ↦ λ is. is
      ] refl

      at : (is : Bool) → same_suit x w ≡ is → is_or_beats trump led x w ≡ is_or_beats trump led y w
      at true is =
          let y_suit : same_suit y w ≡ true = ap (λ n. n == (w / 13)) (sym (eqb-true (x / 13) (y / 13) small.0)) ∙ is in
          below_both trump led w x y small.0 is (low w x does small.1 (suit_back x w is)) (low w y does small.2 (suit_back y w y_suit))
      at false is = by_suits trump led x w y w small.0 (eq-eqb (w / 13) (w / 13) refl) (flip x w is)

  -- the winner and another card, in two tricks
  module _ (led first w v x y : ℕ) (led_suit : same_suit led first ≡ true) (winners : AreAlike counts w v) (others : AreAlike counts x y) (rank : (counts w ≡ true) ⊎ (same_suit x w ≡ false)) where
    counted : counts w ≡ true → w ≡ v
    counted does = at winners
      where
        at : AreAlike counts w v → w ≡ v
        at (inl same) = same
        at (inr small) = let never = sym does ∙ small.1 in cc

    pub pair_above : is_or_beats trump led w x ≡ is_or_beats trump first v y
    pair_above = at rank
      where
        at : (counts w ≡ true) ⊎ (same_suit x w ≡ false) → is_or_beats trump led w x ≡ is_or_beats trump first v y
        at (inl does) = counted_above led w x y does others ∙ same_led trump led first w y led_suit ∙ ap (λ c. is_or_beats trump first c y) (counted does)
        at (inr alone) = by_suits trump led w x v y (alike_suit counts w v winners) (alike_suit counts x y others) alone ∙ same_led trump led first v y led_suit

    pub pair_below : is_or_beats trump led x w ≡ is_or_beats trump first y v
    pair_below = at rank
      where
        flip : (a b : ℕ) → same_suit a b ≡ false → same_suit b a ≡ false
        flip a b p = elim (same_suit b a) as (λ is. same_suit b a ≡ is → same_suit b a ≡ false) [
          | true ↦ λ is. let never = suit_back b a is in cc
          | false ↦ λ is. is
        ] refl

        at : (counts w ≡ true) ⊎ (same_suit x w ≡ false) → is_or_beats trump led x w ≡ is_or_beats trump first y v
        at (inl does) = counted_below led w x y does others ∙ same_led trump led first y w led_suit ∙ ap (λ c. is_or_beats trump first y c) (counted does)
        at (inr alone) = by_suits trump led x w y v (alike_suit counts x y others) (alike_suit counts w v winners) (flip x w alone) ∙ same_led trump led first y v led_suit

  -- ---- the whole trick

  module _ (trick played : List ℕ) (same : AgreeTrick counts trick played) (ranked : IsRanked trump counts trick) where
    abbrev index : ℕ
    index = ranked.index

    abbrev card : ℕ → ℕ
    card k = get_or trick k 0

    abbrev other : ℕ → ℕ
    other k = get_or played k 0

    few : index < length trick
    few = ranked.winning.within

    led_same : same_suit (card 0) (other 0) ≡ true
    led_same = alike_suit counts (card 0) (other 0) (same.each 0 (omega (arith, few)))

    rank_at : (k : ℕ) → k < length trick → (k ≡ index → ⊥) → (counts (card index) ≡ true) ⊎ (same_suit (card k) (card index) ≡ false)
    rank_at k within differ = at ranked.rank
      where
        at : (counts (card index) ≡ true) ⊎ ((j : ℕ) → j < length trick → j ≢ index → same_suit (card j) (card index) ≡ false) → (counts (card index) ≡ true) ⊎ (same_suit (card k) (card index) ≡ false)
        at (inl does) = inl does
        at (inr alone) = inr (alone k within differ)

    beaten : (k : ℕ) → k < length trick → is_or_beats trump (card 0) (card index) (card k) ≡ true
    beaten k within = AllPass-from_list_all (is_or_beats trump (card 0) (card index)) trick ranked.winning.wins_there k 0 within

    beaten_too : (k : ℕ) → k < length trick → (k ≡ index) ⊎ (k ≡ index → ⊥) → is_or_beats trump (other 0) (other index) (other k) ≡ true
    beaten_too k within (inl here) = rw here (ap (λ e. e || beats trump (other 0) (other index) (other index)) (eq-eqb (other index) (other index) refl))
    beaten_too k within (inr differ) =
        sym (pair_above (card 0) (other 0) (card index) (other index) (card k) (other k) led_same (same.each index few) (same.each k within) (rank_at k within differ))
        ∙ beaten k within

    first_too : (k : ℕ) → k < index → (is : Bool) → wins trump played (other k) ≡ is → wins trump played (other k) ≡ false
    first_too k less false is = is
    first_too k less true is =
        let within : k < length trick = omega (arith, less, few) in
        let differ : k ≡ index → ⊥ = λ e. omega (arith, less, e) in
        let over : is_or_beats trump (other 0) (other k) (other index) ≡ true =
        AllPass-from_list_all (is_or_beats trump (other 0) (other k)) played is index 0 (omega (arith, few, same.long)) in
        let over_there : is_or_beats trump (card 0) (card k) (card index) ≡ true =
        pair_below (card 0) (other 0) (card index) (other index) (card k) (other k) led_same (same.each index few) (same.each k within) (rank_at k within differ) ∙ over in
        let one : card index ≡ card k = one_card trump (card 0) (card index) (card k) (beaten k within) over_there in
        let never = sym (ranked.winning.first k less) ∙ ap (wins trump trick) (sym one) ∙ ranked.winning.wins_there in
        cc

    winning_too : IsWinning trump played index
    winning_too = record {
      within = omega (arith, few, same.long);
      wins_there = list_all-from_AllPass (is_or_beats trump (other 0) (other index)) played
          (λ k d within. rw (get_or_default played k d 0 within) (beaten_too k (omega (arith, within, same.long)) (cases_eq k index)));
      first = λ k less. first_too k less (wins trump played (other k)) refl;
    }

    pub same_leader : (leader : Seat) → next_leader trump leader played ≡ next_leader trump leader trick
    same_leader leader =
        ap (clockwise_from leader) (winning_is trump played index winning_too ∙ sym (winning_is trump trick index ranked.winning))
