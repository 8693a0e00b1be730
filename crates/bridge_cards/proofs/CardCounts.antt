-- What follows of the number and the list of a set's cards from which cards it has.
use Rattle.std.specs.Prelude.{ℕ, ◌≡◌, ◌+◌, ◌<◌, ◌≤◌, Bool, true, false, cond, not, ◌&&◌, ◌||◌, ◌==◌, ◌⊎◌, List, [], ◌∷◌, length, filter, count_by, refl}
use Rattle.std.specs.List.{range_with_len}
use Rattle.std.proofs.Common.{zero, suc, sym, ap, ◌∙◌, arith, inl, inr}
use Rattle.std.proofs.lemmas.List.Sums.{sum_by-cons, length-filter, count_by-le-length}
use Rattle.std.proofs.lemmas.Bool.{cases_eq, eq-eqb, ne_eqb, and_left, and_right, or_right, cond-true, cond-false}
use Rattle.bridge_cards.specs.CardSet.{has_card, deck, cards_of, card_count}

-- ---- tests on a list

-- what passes either of two tests, which nothing passes both of
pub count_either : (p q r : ℕ → Bool) → ((x : ℕ) → r x ≡ (p x || q x)) → ((x : ℕ) → (p x && q x) ≡ false) → (xs : List ℕ) → count_by r xs ≡ count_by p xs + count_by q xs
count_either p q r either apart [] = refl
count_either p q r either apart (x ∷ xs) =
    omega (
      arith,
      sum_by-cons (λ y. cond (r y) 1 0) x xs,
      sum_by-cons (λ y. cond (p y) 1 0) x xs,
      sum_by-cons (λ y. cond (q y) 1 0) x xs,
      count_either p q r either apart xs,
      ap (λ b. cond {A = ℕ} b 1 0) (either x),
      one (p x) (q x) (apart x),
    )
  where
    one : (a b : Bool) → (a && b) ≡ false → ◌≡◌ {A = ℕ} (cond (a || b) 1 0) (cond a 1 0 + cond b 1 0)
    one true true e = absurd (cc)
    one true false e = refl
    one false true e = refl
    one false false e = refl

-- one number is counted once among numbers in a row
pub count_none : (card k a : ℕ) → card < a → count_by (λ x. x == card) (range_with_len a k) ≡ 0
count_none card zero a above = refl
count_none card (suc k) a above =
    sum_by-cons (λ x. cond (x == card) 1 0) a (range_with_len (a + 1) k)
    ∙ ap (λ b. cond b 1 0 + count_by (λ x. x == card) (range_with_len (a + 1) k)) (ne_eqb a card (λ e. omega arith))
    ∙ ap (λ n. 0 + n) (count_none card k (a + 1) (omega arith))

pub count_one : (card k a : ℕ) → a ≤ card → card < a + k → count_by (λ x. x == card) (range_with_len a k) ≡ 1
count_one card zero a low high = absurd (omega arith)
count_one card (suc k) a low high = sum_by-cons (λ x. cond (x == card) 1 0) a (range_with_len (a + 1) k) ∙ at (count_one card k (a + 1)) (cases_eq a card)
  where
    at : (a + 1 ≤ card → card < a + 1 + k → count_by (λ x. x == card) (range_with_len (a + 1) k) ≡ 1) → (a ≡ card) ⊎ (a ≡ card → ⊥)
        → cond (a == card) 1 0 + count_by (λ x. x == card) (range_with_len (a + 1) k) ≡ 1
    at rest (inl e) =
        ap (λ b. cond b 1 0 + count_by (λ x. x == card) (range_with_len (a + 1) k)) (eq-eqb a card e)
        ∙ ap (λ n. 1 + n) (count_none card k (a + 1) (omega arith))
    at rest (inr ne) =
        ap (λ b. cond b 1 0 + count_by (λ x. x == card) (range_with_len (a + 1) k)) (ne_eqb a card ne)
        ∙ ap (λ n. 0 + n) (rest (omega arith) (omega arith))

-- ---- how many cards a set has

-- one card of the deck, of those that pass a test, passes it no longer
pub count_by-without : (p q : ℕ → Bool) (card : ℕ) → card < 52 → p card ≡ true → ((other : ℕ) → q other ≡ (p other && not (other == card))) → count_by p deck ≡ count_by q deck + 1
unfolding deck
count_by-without p q card inside has without =
    count_either q (λ x. x == card) p (λ x. either x (cases_eq x card)) (λ x. apart (p x) (x == card) (q x) (without x)) (range_with_len 0 52)
    ∙ ap (λ n. count_by q (range_with_len 0 52) + n) (count_one card 52 0 (omega arith) (omega arith))
  where
    apart : (a b c : Bool) → c ≡ (a && not b) → (c && b) ≡ false
    apart true true c e = ap (λ x. x && true) e
    apart true false true e = refl
    apart true false false e = refl
    apart false b c e = ap (λ x. x && b) e

    both : (a b c : Bool) → c ≡ (a && not b) → b ≡ false → a ≡ (c || b)
    both a true c e f = absurd (cc)
    both true false c e f = sym (ap (λ x. x || false) e)
    both false false c e f = sym (ap (λ x. x || false) e)

    either : (x : ℕ) → (x ≡ card) ⊎ (x ≡ card → ⊥) → p x ≡ (q x || (x == card))
    either x (inl e) = ap p e ∙ has ∙ sym (ap (λ b. q x || b) (eq-eqb x card e) ∙ or_right (q x) true refl)
    either x (inr ne) = both (p x) (x == card) (q x) (without x) (ne_eqb x card ne)

-- one card taken from a set
pub card_count-without : (cards rest card : ℕ) → card < 52 → has_card cards card ≡ true → ((other : ℕ) → has_card rest other ≡ (has_card cards other && not (other == card)))
    → card_count cards ≡ card_count rest + 1
unfolding card_count
card_count-without cards rest = count_by-without (has_card cards) (has_card rest)

-- the list of a set's cards is as long as they are many
pub length-cards_of : (cards : ℕ) → length (cards_of cards) ≡ card_count cards
unfolding cards_of card_count
length-cards_of cards = length-filter (has_card cards) deck

-- no set has more cards than the deck
pub card_count_le : (cards : ℕ) → card_count cards ≤ 52
unfolding card_count deck
card_count_le cards = count_by-le-length (has_card cards) (range_with_len 0 52)

-- ---- the list of its cards

filter_none : (p : ℕ → Bool) → ((x : ℕ) → p x ≡ false) → (xs : List ℕ) → filter p xs ≡ []
filter_none p none [] = refl
filter_none p none (x ∷ xs) = cond-false (p x) (x ∷ filter p xs) (filter p xs) (none x) ∙ filter_none p none xs

-- a set without a card has the empty list
pub cards_of-empty : (cards : ℕ) → ((card : ℕ) → has_card cards card ≡ false) → cards_of cards ≡ []
unfolding cards_of
cards_of-empty cards none = filter_none (has_card cards) none deck

module _ (p q : ℕ → Bool) (card : ℕ) (without : (x : ℕ) → q x ≡ (p x && not (x == card))) where
  same_above : (x : ℕ) → card < x → p x ≡ q x
  same_above x above = sym (without x ∙ ap (λ b. p x && not b) (ne_eqb x card (λ e. omega arith)) ∙ and_true (p x))
    where
      and_true : (b : Bool) → (b && true) ≡ b
      and_true true = refl
      and_true false = refl

  filter_above : (k a : ℕ) → card < a → filter p (range_with_len a k) ≡ filter q (range_with_len a k)
  filter_above zero a above = refl
  filter_above (suc k) a above =
      ap (λ rest. cond (p a) (a ∷ rest) rest) (filter_above k (a + 1) (omega arith))
      ∙ ap (λ b. cond b (a ∷ filter q (range_with_len (a + 1) k)) (filter q (range_with_len (a + 1) k))) (same_above a above)

  filter_lowest : p card ≡ true → ((x : ℕ) → x < card → p x ≡ false) → (k a : ℕ) → a ≤ card → card < a + k → filter p (range_with_len a k) ≡ card ∷ filter q (range_with_len a k)
  filter_lowest has lowest zero a low high = absurd (omega arith)
  filter_lowest has lowest (suc k) a low high = at (filter_lowest has lowest k (a + 1)) (cases_eq a card)
    where
      at : (a + 1 ≤ card → card < a + 1 + k → filter p (range_with_len (a + 1) k) ≡ card ∷ filter q (range_with_len (a + 1) k)) → (a ≡ card) ⊎ (a ≡ card → ⊥)
          → cond (p a) (a ∷ filter p (range_with_len (a + 1) k)) (filter p (range_with_len (a + 1) k)) ≡ card ∷ cond (q a) (a ∷ filter q (range_with_len (a + 1) k)) (filter q (range_with_len (a + 1) k))
      at others (inl e) =
          cond-true (p a) (a ∷ filter p (range_with_len (a + 1) k)) (filter p (range_with_len (a + 1) k)) (ap p e ∙ has)
          ∙ ap (λ rest. a ∷ rest) (filter_above k (a + 1) (omega arith))
          ∙ ap (λ n. n ∷ filter q (range_with_len (a + 1) k)) e
          ∙ ap (λ rest. card ∷ rest) (sym (cond-false (q a) (a ∷ filter q (range_with_len (a + 1) k)) (filter q (range_with_len (a + 1) k)) (without a ∙ and_right (p a) (not (a == card)) (ap not (eq-eqb a card e)))))
      at others (inr ne) =
          let none = lowest a (omega arith) in
          cond-false (p a) (a ∷ filter p (range_with_len (a + 1) k)) (filter p (range_with_len (a + 1) k)) none
          ∙ others (omega arith) (omega arith)
          ∙ ap (λ rest. card ∷ rest) (sym (cond-false (q a) (a ∷ filter q (range_with_len (a + 1) k)) (filter q (range_with_len (a + 1) k)) (without a ∙ and_left (p a) (not (a == card)) none)))

-- the list of a set's cards begins with its lowest, and the rest is the list of the others
pub cards_of-lowest : (cards rest card : ℕ) → card < 52 → has_card cards card ≡ true → ((other : ℕ) → other < card → has_card cards other ≡ false)
    → ((other : ℕ) → has_card rest other ≡ (has_card cards other && not (other == card))) → cards_of cards ≡ card ∷ cards_of rest
unfolding cards_of deck
cards_of-lowest cards rest card inside has lowest without =
    filter_lowest (has_card cards) (has_card rest) card without has lowest 52 0 (omega arith) (omega arith)
