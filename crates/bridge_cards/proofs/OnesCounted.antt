-- How many cards a set has.
use Rattle.std.proofs.Common.{◌≡◌, ℕ, zero, suc, ◌+◌, ◌/◌, ◌%◌, ◌^◌, ◌<◌, cond, ◌==◌, refl, sym, ap, ◌∙◌, arith, count_by, count_ones, add-one}
use Rattle.std.specs.Int.{bit_at}
use Rattle.std.specs.List.{range_with_len}
use Rattle.std.proofs.lemmas.Nat.Bits.{bit_at-lt, bit_at_lowest, bit_at-suc}
use Rattle.std.proofs.lemmas.List.Sums.{sum_by-cons}
use Rattle.std.proofs.lemmas.Nat.{ones-le}
use Rattle.std.proofs.lemmas.Bool.Decides.{nat_tests}
use Rattle.std.proofs.Math.Nat.{pow-suc}
use lib.Count.{ones_step}
use Rattle.bridge_cards.specs.CardSet.{IsCardSet, has_card, deck, card_count}

has_card-half : (n card : ℕ) → has_card n (card + 1) ≡ has_card (n / 2) card
unfolding has_card
has_card-half n card = ap (λ i. bit_at n i == 1) (add-one card) ∙ ap (λ d. d == 1) (bit_at-suc n card)

-- the cards of n from index a + 1 on are those of n / 2 from index a on
count-half : (n a k : ℕ) → count_by (has_card n) (range_with_len (a + 1) k) ≡ count_by (has_card (n / 2)) (range_with_len a k)
count-half n a zero = refl
count-half n a (suc k) =
    sum_by-cons (λ x. cond (has_card n x) 1 0) (a + 1) (range_with_len (a + 1 + 1) k)
    ∙ ap (λ b. cond b 1 0 + count_by (has_card n) (range_with_len (a + 1 + 1) k)) (has_card-half n a)
    ∙ ap (λ m. cond (has_card (n / 2) a) 1 0 + m) (count-half n (a + 1) k)
    ∙ sym (sum_by-cons (λ x. cond (has_card (n / 2) x) 1 0) a (range_with_len (a + 1) k))

one_or_zero : (d : ℕ) → d < 2 → cond (d == 1) 1 0 ≡ d
one_or_zero d h = grind (arith, nat_tests)

lowest_counted : (n : ℕ) → cond (has_card n 0) 1 0 ≡ n % 2
unfolding has_card
lowest_counted n = one_or_zero (bit_at n 0) (bit_at-lt n 0) ∙ bit_at_lowest n

-- the ones of a number of k digits are counted place by place
ones_counted : (k n : ℕ) → n < 2 ^ k → count_ones n ≡ count_by (has_card n) (range_with_len 0 k)
ones_counted zero n h = omega (arith, ones-le 0 n h)
ones_counted (suc k) n h =
    ones_step n
    ∙ ap (λ m. n % 2 + m) (ones_counted k (n / 2) (omega (arith, pow-suc 2 k)) ∙ sym (count-half n 0 k))
    ∙ ap (λ d. d + count_by (has_card n) (range_with_len 1 k)) (sym (lowest_counted n))
    ∙ sym (sum_by-cons (λ x. cond (has_card n x) 1 0) 0 (range_with_len 1 k))

-- what `count_ones` gives
pub count_ones_is : (cards : ℕ) → IsCardSet cards → count_ones cards ≡ card_count cards
unfolding card_count deck
count_ones_is cards set = ones_counted 52 cards set
