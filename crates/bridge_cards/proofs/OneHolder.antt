-- A card is in one of four hands at most, where no card is in two of them.
use Rattle.std.proofs.Common.{◌≡◌, ℕ, zero, suc, ◌+◌, ◌<◌, ◌≤◌, ◌⊎◌, inl, inr, Bool, true, false, cond, List, [], ◌∷◌, length, get_or, count_by, refl, ap, ◌∙◌, arith}
use Rattle.std.proofs.lemmas.Bool.{cases_lt, cases_eq, eq-eqb}
use Rattle.std.proofs.lemmas.List.Sums.{sum_by-cons}
use Rattle.bridge_cards.specs.declared.seat.Seat.{Seat}
use Rattle.bridge_cards.specs.declared.seat.Seat.TheVariants.{North, East, South, West}
use Rattle.bridge_cards.specs.Seat.{seat_number, same_seat}
use Rattle.bridge_cards.specs.CardSet.{has_card}
use Rattle.bridge_cards.specs.Deal.{hand_at, NoneTwice}

pub seat_few : (seat : Seat) → seat_number seat < 4
seat_few North = omega arith
seat_few East = omega arith
seat_few South = omega arith
seat_few West = omega arith

count_first : (p : ℕ → Bool) (x : ℕ) (xs : List ℕ) → p x ≡ true → count_by p (x ∷ xs) ≡ 1 + count_by p xs
count_first p x xs passes = sum_by-cons (λ y. cond (p y) 1 0) x xs ∙ ap (λ b. cond b 1 0 + count_by p xs) passes

count_rest : (p : ℕ → Bool) (x : ℕ) (xs : List ℕ) → count_by p xs ≤ count_by p (x ∷ xs)
count_rest p x xs = omega (arith, sum_by-cons (λ y. cond (p y) 1 0) x xs)

counted : (p : ℕ → Bool) (xs : List ℕ) (k : ℕ) → k < length xs → p (get_or xs k 0) ≡ true → 1 ≤ count_by p xs
counted p [] k within passes = absurd (omega arith)
counted p (x ∷ xs) zero within passes = omega (arith, count_first p x xs passes)
counted p (x ∷ xs) (suc k) within passes = omega (arith, count_rest p x xs, counted p xs k (omega arith) passes)

-- two indexes of a list pass a test
counted_twice : (p : ℕ → Bool) (xs : List ℕ) (j k : ℕ) → j < k → k < length xs → p (get_or xs j 0) ≡ true → p (get_or xs k 0) ≡ true → 2 ≤ count_by p xs
counted_twice p [] j k less within first second = absurd (omega arith)
counted_twice p (x ∷ xs) j zero less within first second = absurd (omega arith)
counted_twice p (x ∷ xs) zero (suc k) less within first second = omega (arith, count_first p x xs first, counted p xs k (omega arith) second)
counted_twice p (x ∷ xs) (suc j) (suc k) less within first second = omega (arith, count_rest p x xs, counted_twice p xs j k (omega arith) (omega arith) first second)

module _ (hands : List ℕ) (four : length hands ≡ 4) (once : NoneTwice hands) (seat : Seat) (card : ℕ) (has : has_card (hand_at hands seat) card ≡ true) where
  -- no other seat has a card that a seat has
  pub one_holder : (other : Seat) → same_seat other seat ≡ false → has_card (hand_at hands other) card ≡ false
  one_holder other differ = at (has_card (hand_at hands other) card) refl
    where
      twice : has_card (hand_at hands other) card ≡ true → (seat_number other < seat_number seat) ⊎ (seat_number seat ≤ seat_number other) → (seat_number other ≡ seat_number seat) ⊎ (seat_number other ≡ seat_number seat → ⊥) → ⊥
      twice too order (inl same) = let equal = eq-eqb (seat_number other) (seat_number seat) same in cc
      twice too (inl less) (inr _) =
          let more = counted_twice (λ hand. has_card hand card) hands (seat_number other) (seat_number seat) less (omega (arith, seat_few seat, four)) too has in
          omega (arith, once card)
      twice too (inr more) (inr not) =
          let count = counted_twice (λ hand. has_card hand card) hands (seat_number seat) (seat_number other) (omega arith) (omega (arith, seat_few other, four)) has too in
          omega (arith, once card)

      at : (is : Bool) → has_card (hand_at hands other) card ≡ is → has_card (hand_at hands other) card ≡ false
      at true is = absurd (twice is (cases_lt (seat_number other) (seat_number seat)) (cases_eq (seat_number other) (seat_number seat)))
      at false is = is
