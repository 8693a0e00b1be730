-- What the operations on bits do to the cards of a set.
use Rattle.std.proofs.Common.{◌≡◌, ℕ, zero, suc, ◌+◌, ◌-◌, ◌*◌, ◌/◌, ◌%◌, ◌^◌, ◌<◌, ◌≤◌, min, max, true, false, not, ◌&&◌, ◌||◌, ◌==◌, ◌⊎◌, inl, inr, refl, sym, ap, ◌∙◌, subst, arith, bit_and, bit_or, Option, Some, None, IfSome, IsSome, IsNone}
use Rattle.std.specs.Int.{bit_at, trailing_zeros, w64}
use lib.Count.{count_trailing_zeros}
use Rattle.std.proofs.lemmas.Nat.{and_le_l, one_shl, pow_pos, pow-add, le-div, div_below}
use Rattle.std.proofs.lemmas.Nat.Bits.{bit_at-lt, bit_at_and, bit_at_or, bit_at-pow_same, bit_at-pow_other, bit_at_not, bit_at_above, shr_and_one, bit_at_mask_inside, bit_at_mask_below, bit_at_mask_above, bit_at-trailing_zeros}
use Rattle.std.proofs.Math.Nat.{pow-le-pow_right}
use Rattle.std.proofs.lemmas.Bool.{cases_lt, cases_eq, eq-eqb, ne_eqb}
use Rattle.std.proofs.lemmas.Bool.Decides.{nat_tests}
use Rattle.bridge_cards.specs.CardSet.{IsCardSet, has_card}
use Rattle.bridge_cards.proofs.CardSetLaws.{has_card-beyond}

one-max : (x y : ℕ) → x < 2 → y < 2 → (max x y == 1) ≡ ((x == 1) || (y == 1))
one-max x y p q = grind (arith, nat_tests)

one-min : (x y : ℕ) → x < 2 → y < 2 → (min x y == 1) ≡ ((x == 1) && (y == 1))
one-min x y p q = grind (arith, nat_tests)

one-without : (x y : ℕ) → x < 2 → y < 2 → (min x (1 - y) == 1) ≡ ((x == 1) && not (y == 1))
one-without x y p q = grind (arith, nat_tests)

pub has_card-or : (a b card : ℕ) → has_card (bit_or a b) card ≡ (has_card a card || has_card b card)
unfolding has_card
has_card-or a b card =
    ap (λ n. n == 1) (bit_at_or a b card) ∙ one-max (bit_at a card) (bit_at b card) (bit_at-lt a card) (bit_at-lt b card)

pub has_card-and : (a b card : ℕ) → has_card (bit_and a b) card ≡ (has_card a card && has_card b card)
unfolding has_card
has_card-and a b card =
    ap (λ n. n == 1) (bit_at_and a b card) ∙ one-min (bit_at a card) (bit_at b card) (bit_at-lt a card) (bit_at-lt b card)

-- `a & !b`
pub has_card-and_not : (a b card : ℕ) → IsCardSet a → b < 2 ^ 64 → has_card (bit_and a (2 ^ 64 - 1 - b)) card ≡ (has_card a card && not (has_card b card))
unfolding has_card
has_card-and_not a b card set fits = go (cases_lt card 64)
  where
    go : (card < 64) ⊎ (64 ≤ card) → has_card (bit_and a (2 ^ 64 - 1 - b)) card ≡ (has_card a card && not (has_card b card))
    go (inl inside) =
        ap (λ n. n == 1) (bit_at_and a (2 ^ 64 - 1 - b) card ∙ ap (min (bit_at a card)) (bit_at_not w64 b card fits inside))
        ∙ one-without (bit_at a card) (bit_at b card) (bit_at-lt a card) (bit_at-lt b card)
    go (inr beyond) =
        has_card-beyond (bit_and a (2 ^ 64 - 1 - b)) card (omega (arith, and_le_l a (2 ^ 64 - 1 - b))) (omega arith)
        ∙ sym (ap (λ x. x && not (has_card b card)) (has_card-beyond a card set (omega arith)))

-- `1 << card`
pub has_card-one : (card other : ℕ) → card < 52 → has_card (1 * 2 ^ card % 2 ^ 64) other ≡ (other == card)
unfolding has_card
has_card-one card other h =
    ap (λ n. bit_at n other == 1) (one_shl card 64 (omega arith)) ∙ go (cases_eq other card)
  where
    go : (other ≡ card) ⊎ (other ≡ card → ⊥) → (bit_at (2 ^ card) other == 1) ≡ (other == card)
    go (inl e) = ap (λ n. n == 1) (subst (λ n. bit_at (2 ^ card) n ≡ 1) (sym e) (bit_at-pow_same card)) ∙ sym (eq-eqb other card e)
    go (inr ne) = ap (λ n. n == 1) (bit_at-pow_other card other ne) ∙ sym (ne_eqb other card ne)

-- `(a >> card) & 1 == 1`
pub has_card_by_shift : (a card : ℕ) → (bit_and (a / 2 ^ card) 1 == 1) ≡ has_card a card
unfolding has_card
has_card_by_shift a card = ap (λ n. n == 1) (shr_and_one a card)

suit_mask : (suit : ℕ) → suit < 4 → 8191 * 2 ^ (13 * suit) % 2 ^ 64 ≡ 2 ^ (13 * suit + 13) - 2 ^ (13 * suit)
suit_mask zero h = refl
suit_mask (suc zero) h = refl
suit_mask (suc (suc zero)) h = refl
suit_mask (suc (suc (suc zero))) h = refl
suit_mask (suc (suc (suc (suc n)))) h = absurd (omega arith)

-- `0x1fff << (13 * suit)`
pub has_card-suit : (suit card : ℕ) → suit < 4 → has_card (8191 * 2 ^ (13 * suit) % 2 ^ 64) card ≡ (card / 13 == suit)
unfolding has_card
has_card-suit suit card h = ap (λ n. bit_at n card == 1) (suit_mask suit h) ∙ go (cases_lt card (13 * suit)) (cases_lt card (13 * suit + 13))
  where
    go : (card < 13 * suit) ⊎ (13 * suit ≤ card) → (card < 13 * suit + 13) ⊎ (13 * suit + 13 ≤ card) → (bit_at (2 ^ (13 * suit + 13) - 2 ^ (13 * suit)) card == 1) ≡ (card / 13 == suit)
    go (inl below) _ = ap (λ n. n == 1) (bit_at_mask_below (13 * suit) (13 * suit + 13) card below) ∙ sym (ne_eqb (card / 13) suit (λ e. omega arith))
    go (inr above) (inl inside) = ap (λ n. n == 1) (bit_at_mask_inside (13 * suit) (13 * suit + 13) card above inside) ∙ sym (eq-eqb (card / 13) suit (omega arith))
    go (inr _) (inr above) = ap (λ n. n == 1) (bit_at_mask_above (13 * suit) (13 * suit + 13) card above) ∙ sym (ne_eqb (card / 13) suit (λ e. omega arith))

-- a set that is not empty has a card
pub some_card : (cards : ℕ) → IsCardSet cards → 0 < cards → (card : ℕ) × (has_card cards card ≡ true)
unfolding has_card
some_card cards set some =
    let lowest = bit_at-trailing_zeros w64 cards some (omega arith) in (trailing_zeros w64 cards, ap (λ n. n == 1) lowest.1)

-- ---- the lowest and the highest card

lowest_parts : (cards : ℕ) → IsCardSet cards → 0 < cards → (has_card cards (trailing_zeros w64 cards) ≡ true) × ((other : ℕ) → other < trailing_zeros w64 cards → has_card cards other ≡ false)
unfolding has_card
lowest_parts cards set some =
    let lowest = bit_at-trailing_zeros w64 cards some (omega arith) in
    (ap (λ n. n == 1) lowest.1, λ other below. ap (λ n. n == 1) (lowest.2 other below))

-- no bit of 0 is set
pub lowest_of_none : trailing_zeros w64 0 < 52 → ⊥
unfolding count_trailing_zeros
lowest_of_none h = omega arith

pub lowest_card : (cards : ℕ) → IsCardSet cards → trailing_zeros w64 cards < 52
    → (has_card cards (trailing_zeros w64 cards) ≡ true) × ((other : ℕ) → other < trailing_zeros w64 cards → has_card cards other ≡ false)
lowest_card zero set inside = absurd (lowest_of_none inside)
lowest_card (suc n) set inside = lowest_parts (suc n) set (omega arith)

pub lowest_none : (cards : ℕ) → IsCardSet cards → (trailing_zeros w64 cards < 52 → ⊥) → cards ≡ 0
lowest_none zero set beyond = refl
lowest_none (suc n) set beyond =
    let has = (lowest_parts (suc n) set (omega arith)).0 in
    let none = has_card-beyond (suc n) (trailing_zeros w64 (suc n)) set (not_below (trailing_zeros w64 (suc n)) beyond) in
    cc
  where
    not_below : (m : ℕ) → (m < 52 → ⊥) → 52 ≤ m
    not_below m h = omega arith

two_power_le : (i j : ℕ) → i ≤ j → 2 ^ i ≤ 2 ^ j
two_power_le i j h = pow-le-pow_right (omega arith) h

pub highest_card : (cards index : ℕ) → IsCardSet cards → 2 ^ index ≤ cards → cards < 2 * 2 ^ index
    → (index < 52) × (has_card cards index ≡ true) × ((other : ℕ) → index < other → has_card cards other ≡ false)
unfolding has_card
highest_card cards index set low high =
    let one : cards / 2 ^ index ≡ 1
    = omega (arith, le-div 1 cards (2 ^ index) (pow_pos index) (omega arith), div_below cards (2 ^ index) 2 (pow_pos index) high) in (
      inside (cases_lt index 52),
      ap (λ n. n % 2 == 1) one,
      λ other above. ap (λ n. n == 1) (bit_at_above cards (index + 1) other (omega (arith, pow-add 2 index 1)) (omega arith)),
    )
  where
    inside : (index < 52) ⊎ (52 ≤ index) → index < 52
    inside (inl h) = h
    inside (inr h) = absurd (omega (arith, two_power_le 52 index h))

-- an option that has the number n, if any
pub some_at : (r : Option ℕ) (n : ℕ) (P : ℕ → Type 0) → IfSome r (λ x. x ≡ n) → (IsSome r → P n) → IfSome r P
some_at None n P same at = tt
some_at (Some x) n P same at = subst P (sym same) (at refl)

pub none_at : (r : Option ℕ) → (IsSome r → ⊥) → IsNone r
none_at None h = refl
none_at (Some x) h = absurd (h refl)

pub not_none : (r : Option ℕ) → IsNone r → IsSome r → ⊥
not_none r none some = cc
