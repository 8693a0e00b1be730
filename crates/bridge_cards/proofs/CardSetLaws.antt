-- What follows from which cards a set has.
use Rattle.std.specs.Prelude.{ℕ, ◌≡◌, ◌<◌, ◌≤◌, false, ◌==◌, ◌⊎◌}
use Rattle.std.specs.Int.{bit_at}
use Rattle.std.proofs.Common.{sym, ap, ◌∙◌, arith, inl, inr}
use Rattle.std.proofs.lemmas.Nat.Bits.{bit_at-lt, bit_at-zero, bit_at_above, same_from_bits}
use Rattle.std.proofs.lemmas.Bool.{cases_lt}
use Rattle.std.proofs.lemmas.Bool.Decides.{nat_tests}
use Rattle.bridge_cards.specs.CardSet.{IsCardSet, has_card}

bits_agree : (x y : ℕ) → x < 2 → y < 2 → (x == 1) ≡ (y == 1) → x ≡ y
bits_agree x y p q e = grind (arith, nat_tests)

-- two sets with the same cards are one
pub same_cards : (a b : ℕ) → ((card : ℕ) → has_card a card ≡ has_card b card) → a ≡ b
unfolding has_card
same_cards a b same = same_from_bits a b (λ i. bits_agree (bit_at a i) (bit_at b i) (bit_at-lt a i) (bit_at-lt b i) (same i))

-- the empty set has no card
pub has_card-zero : (card : ℕ) → has_card 0 card ≡ false
unfolding has_card
has_card-zero card = ap (λ n. n == 1) (bit_at-zero card)

-- no set has a card beyond the deck
pub has_card-beyond : (cards card : ℕ) → IsCardSet cards → 52 ≤ card → has_card cards card ≡ false
unfolding has_card
has_card-beyond cards card set beyond = ap (λ n. n == 1) (bit_at_above cards 52 card set beyond)

-- so two sets with the same cards of the deck are one
pub same_cards_of_deck : (a b : ℕ) → IsCardSet a → IsCardSet b → ((card : ℕ) → card < 52 → has_card a card ≡ has_card b card) → a ≡ b
same_cards_of_deck a b p q same = same_cards a b (λ card. at card (cases_lt card 52))
  where
    at : (card : ℕ) → (card < 52) ⊎ (52 ≤ card) → has_card a card ≡ has_card b card
    at card (inl inside) = same card inside
    at card (inr beyond) = has_card-beyond a card p beyond ∙ sym (has_card-beyond b card q beyond)
