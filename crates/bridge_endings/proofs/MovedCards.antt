-- Sets of cards that are moved, by their bits.
use Rattle.std.proofs.Common.{◌≡◌, ℕ, zero, suc, ◌+◌, ◌-◌, ◌*◌, ◌/◌, ◌%◌, ◌^◌, ◌<◌, ◌≤◌, ◌⊎◌, inl, inr, false, not, ◌&&◌, ◌==◌, nat_le, nat_lt, sym, ap, ◌∙◌, arith}
use Rattle.std.specs.Int.{bit_at}
use Rattle.std.proofs.Math.Pow.{pow-lt}
use Rattle.std.proofs.lemmas.Bool.{cases_eq, cases_lt, le-leb, lt-leb}
use Rattle.std.proofs.lemmas.Bool.Decides.{nat_tests}
use Rattle.std.proofs.lemmas.Nat.Bits.{bit_at_ones, bit_at_ones_above, bit_at-suc, bit_at_lowest}
use Rattle.bridge_cards.specs.Card.{same_suit, card_suit}
use Rattle.bridge_cards.specs.CardSet.{has_card, is_of_suit}
use Rattle.bridge_cards.proofs.SuitHeld.{is_of_suit-card_suit}
use Rattle.bridge_endings.specs.Closed.{is_below, moved_up}

-- ---- the cards up to one

pub ones_few : (card : ℕ) → card < 52 → 2 ^ (card + 1) - 1 < 2 ^ 52
ones_few card inside = at (cases_eq (card + 1) 52)
  where
    some : 1 < 2 ^ (card + 1)
    some = pow-lt {i = 0} {j = card + 1} (omega arith)

    at : (card + 1 ≡ 52) ⊎ (card + 1 ≡ 52 → ⊥) → 2 ^ (card + 1) - 1 < 2 ^ 52
    at (inl last) = omega (arith, some, ap (λ n. 2 ^ n) last)
    at (inr before) = omega (arith, some, pow-lt {i = card + 1} {j = 52} (omega (arith, inside, before)))

pub ones_some : (card : ℕ) → 1 < 2 ^ (card + 1)
ones_some card = pow-lt {i = 0} {j = card + 1} (omega arith)

pub up_to_bits : (card other : ℕ) → has_card (2 ^ (card + 1) - 1) other ≡ nat_le other card
unfolding has_card
up_to_bits card other = at (cases_lt other (card + 1))
  where
    at : (other < card + 1) ⊎ (card + 1 ≤ other) → has_card (2 ^ (card + 1) - 1) other ≡ nat_le other card
    at (inl below) = ap (λ b. b == 1) (bit_at_ones (card + 1) other below) ∙ sym (le-leb other card (omega (arith, below)))
    at (inr above) = ap (λ b. b == 1) (bit_at_ones_above (card + 1) other above) ∙ sym (lt-leb other card (omega (arith, above)))

-- ---- cards moved by one

twice_half : (n : ℕ) → n * 2 / 2 ≡ n
twice_half n = omega arith

twice_even : (n : ℕ) → n * 2 % 2 ≡ 0
twice_even n = omega arith

pub up_bits : (cards card : ℕ) → has_card (cards * 2) card ≡ moved_up (has_card cards) card
unfolding has_card
up_bits cards zero = ap (λ b. b == 1) (bit_at_lowest (cards * 2) ∙ twice_even cards)
up_bits cards (suc card) = ap (λ b. b == 1) (bit_at-suc (cards * 2) card ∙ ap (λ n. bit_at n card) (twice_half cards))

pub down_bits : (cards card : ℕ) → has_card (cards / 2) card ≡ has_card cards (suc card)
unfolding has_card
down_bits cards card = ap (λ b. b == 1) (sym (bit_at-suc cards card))

-- ---- the cards below one

pub below_is : (suited below result card : ℕ) → card < 52 → ((x : ℕ) → has_card below x ≡ nat_le x card) → ((x : ℕ) → has_card suited x ≡ (has_card below x && is_of_suit (card_suit card) x)) → ((x : ℕ) → has_card result x ≡ (has_card suited x && not (x == card))) → (x : ℕ) → has_card result x ≡ is_below card x
below_is suited below result card inside downs suits without x =
    without x ∙ ap (λ b. b && not (x == card)) (suits x ∙ ap (λ b. b && is_of_suit (card_suit card) x) (downs x) ∙ ap (λ b. nat_le x card && b) (is_of_suit-card_suit card x inside)) ∙ at x
  where
    at : (x : ℕ) → ((nat_le x card && same_suit x card) && not (x == card)) ≡ (same_suit card x && nat_lt x card)
    at x = grind (arith, nat_tests)

-- ---- shifts

pub up_shift : (n : ℕ) → n < 2 ^ 52 → n * 2 ^ 1 % 2 ^ 64 ≡ n * 2
up_shift n few = omega (arith, few)

pub down_shift : (n : ℕ) → n / 2 ^ 1 ≡ n / 2
down_shift n = omega arith

bit_top : (n : ℕ) → n < 2 ^ 52 → 2 ^ 51 ≤ n → bit_at n 51 ≡ 1
bit_top n few more = omega (arith, few, more)

pub few_up : (n : ℕ) → n < 2 ^ 52 → has_card n 51 ≡ false → n * 2 < 2 ^ 52
unfolding has_card
few_up n few last = at (cases_lt n (2 ^ 51))
  where
    bit : 2 ^ 51 ≤ n → bit_at n 51 ≡ 1
    bit more = bit_top n few more

    at : (n < 2 ^ 51) ⊎ (2 ^ 51 ≤ n) → n * 2 < 2 ^ 52
    at (inl less) = omega (arith, less)
    at (inr more) = let never = sym last ∙ ap (λ b. b == 1) (bit more) in cc
