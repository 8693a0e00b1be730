-- Whether some card of the deck passes a test, and whether a hand has a card of a suit, by the set of its cards of that suit.
use Rattle.std.proofs.Common.{◌≡◌, ℕ, ◌<◌, ◌/◌, Bool, true, false, not, ◌&&◌, ◌==◌, sym, ap, ◌∙◌, arith, zero-add, MatchBool, IsTrue}
use Rattle.std.specs.List.{list_any, range_with_len}
use Rattle.std.proofs.lemmas.Bool.{eqb-true, and_parts}
use Rattle.std.proofs.lemmas.List.Folds.{list_any_at, list_any_none}
use Rattle.std.proofs.lemmas.List.FromFn.{length-range_with_len, get_or-range_with_len}
use Rattle.bridge_cards.specs.Suit.{suit_number, suit_at}
use Rattle.bridge_cards.specs.Card.{same_suit, card_suit}
use Rattle.bridge_cards.specs.CardSet.{has_card, deck, is_of_suit}
use Rattle.bridge_cards.specs.Trick.{has_suit}

-- one card of the deck passes
pub some_card : (p : ℕ → Bool) (card : ℕ) → card < 52 → p card ≡ true → list_any p deck ≡ true
unfolding deck
some_card p card inside passes =
    list_any_at p (range_with_len 0 52) card 0 (omega (arith, length-range_with_len 0 52)) (rw (get_or-range_with_len 0 52 card 0 inside, zero-add card) passes)

-- none does
pub no_card : (p : ℕ → Bool) → ((card : ℕ) → p card ≡ false) → list_any p deck ≡ false
unfolding deck
no_card p none = list_any_none p (range_with_len 0 52) (λ k d within. none _)

-- the suit of a card by its number
suit_number-at : (index : ℕ) → index < 4 → suit_number (suit_at index) ≡ index
suit_number-at index inside = grind arith

pub is_of_suit-card_suit : (led card : ℕ) → led < 52 → is_of_suit (card_suit led) card ≡ same_suit card led
is_of_suit-card_suit led card inside = ap (λ n. card / 13 == n) (suit_number-at (led / 13) (omega arith))

module _ (hand : ℕ → Bool) (led held suited : ℕ) (inside : led < 52) (holds : (card : ℕ) → has_card held card ≡ hand card) (suits : (card : ℕ) → has_card suited card ≡ (has_card held card && is_of_suit (card_suit led) card)) where
  pub in_suit : (card : ℕ) → has_card suited card ≡ (hand card && same_suit card led)
  in_suit card = suits card ∙ ap (λ h. h && is_of_suit (card_suit led) card) (holds card) ∙ ap (λ s. hand card && s) (is_of_suit-card_suit led card inside)

  -- the hand has no card of the suit led
  pub suit_void : ((card : ℕ) → has_card suited card ≡ false) → has_suit hand led ≡ false
  suit_void none = no_card (λ c. hand c && same_suit c led) (λ c. sym (in_suit c) ∙ none c)

  -- it has one
  pub suit_held : (card : ℕ) × IsTrue (has_card suited card) → has_suit hand led ≡ true
  suit_held some =
      let passes : (hand some.0 && same_suit some.0 led) ≡ true = sym (in_suit some.0) ∙ some.1 in
      let same = (and_parts (hand some.0) (same_suit some.0 led) passes).1 in
      let suit : some.0 / 13 ≡ led / 13 = eqb-true (some.0 / 13) (led / 13) same in
      some_card (λ c. hand c && same_suit c led) some.0 (omega arith) passes

  -- so the hand has one where the set is not empty
  pub has_suit_by : (empty : Bool) → MatchBool empty ((card : ℕ) → has_card suited card ≡ false) ((card : ℕ) × IsTrue (has_card suited card)) → not empty ≡ has_suit hand led
  has_suit_by true none = sym (suit_void none)
  has_suit_by false some = sym (suit_held some)
