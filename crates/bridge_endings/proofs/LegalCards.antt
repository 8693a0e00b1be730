-- Which cards a hand may play, by the set of those that it holds.
use Rattle.std.proofs.Common.{◌≡◌, ℕ, ◌<◌, Bool, true, false, not, ◌&&◌, ◌||◌, List, [], ◌∷◌, slice_get, Some, refl, sym, ap, ◌∙◌, IsTrue}
use Rattle.std.proofs.lemmas.Bool.{and_parts}
use Rattle.bridge_cards.specs.Card.{same_suit, card_suit}
use Rattle.bridge_cards.specs.CardSet.{has_card, is_of_suit}
use Rattle.bridge_cards.specs.Trick.{has_suit, follows_suit}
use Rattle.bridge_cards.proofs.SuitHeld as held_of
use Rattle.bridge_endings.specs.Worth.{may_be_played}

-- a hand may play what it holds
pub may_be_played-held : (hand : ℕ → Bool) (trick : List ℕ) (card : ℕ) → may_be_played hand trick card ≡ true → hand card ≡ true
may_be_played-held hand trick card may = (and_parts (hand card) (follows_suit hand trick card) may).0

-- the others follow suit where they can
pub may_follow : (hand : ℕ → Bool) (cards : List ℕ) (led card : ℕ) → slice_get cards 0 ≡ Some led → may_be_played hand cards card ≡ (hand card && (same_suit card led || not (has_suit hand led)))
may_follow hand [] led card some = cc
may_follow hand (first ∷ others) led card some =
    let same : first ≡ led = cc in ap (λ l. hand card && (same_suit card l || not (has_suit hand l))) same

all_or_none : (held same : Bool) → (held && (same || true)) ≡ held
all_or_none true true = refl
all_or_none true false = refl
all_or_none false same = refl

in_suit_alone : (held same : Bool) → (held && (same || false)) ≡ (held && same)
in_suit_alone true true = refl
in_suit_alone true false = refl
in_suit_alone false same = refl

module _ (hand : ℕ → Bool) (cards : List ℕ) (led held suited : ℕ) (first : slice_get cards 0 ≡ Some led) (inside : led < 52) (holds : (card : ℕ) → has_card held card ≡ hand card) (suits : (card : ℕ) → has_card suited card ≡ (has_card held card && is_of_suit (card_suit led) card)) where
  in_suit : (card : ℕ) → has_card suited card ≡ (hand card && same_suit card led)
  in_suit = held_of.in_suit hand led held suited inside holds suits

  -- a hand without a card of the suit led
  pub legal_void : ((card : ℕ) → has_card suited card ≡ false) → (card : ℕ) → has_card held card ≡ may_be_played hand cards card
  legal_void none card =
      holds card
      ∙ sym (all_or_none (hand card) (same_suit card led))
      ∙ ap (λ has. hand card && (same_suit card led || not has)) (sym (held_of.suit_void hand led held suited inside holds suits none))
      ∙ sym (may_follow hand cards led card first)

  -- a hand with one
  pub legal_suited : (card : ℕ) × IsTrue (has_card suited card) → (card : ℕ) → has_card suited card ≡ may_be_played hand cards card
  legal_suited some card =
      in_suit card
      ∙ sym (in_suit_alone (hand card) (same_suit card led))
      ∙ ap (λ has. hand card && (same_suit card led || not has)) (sym (held_of.suit_held hand led held suited inside holds suits some))
      ∙ sym (may_follow hand cards led card first)
