-- What the elements of a list gain from one another, all together.
use Rattle.std.proofs.Common.{ℕ, zero, suc, ◌≡◌, ◌+◌, ◌-◌, ◌*◌, ◌<◌, ◌≤◌, List, [], ◌∷◌, length, take, get_or, remove, map, sum, sum_by, ℤ, pos, ◌+ℤ◌, ap, ◌∙◌, add-one, inl, inr, arith}
use Rattle.std.specs.List.{range_with_len}
use Rattle.std.proofs.lemmas.Bool.{cases_lt}
use Rattle.std.proofs.lemmas.Int.{ints}
use Rattle.std.proofs.lemmas.List.{take_all}
use Rattle.std.proofs.lemmas.List.FromFn.{sum_by-map-range_with_len_more, map-range_with_len_more}
use Rattle.std.proofs.lemmas.List.Sums.{sum_by-cons, sum_by-remove, sum_by_more}
use Rattle.bridge_score.specs.Comparison.{int_sum, int_sum_by}
use Rattle.bridge_score.proofs.Sums.{int_sum_by-cons, int_sum_by-append, int_sum_by_more, int_sum_by-remove}

-- Gains of natural numbers, of which two elements share 20 and an element has 10 against itself

-- one element against all others, and they against it
both_ways : (f : ℤ → ℤ → ℕ) → ((a b : ℤ) → f a b + f b a ≡ 20) → (x : ℤ) (xs : List ℤ) →
    sum_by (f x) xs + sum_by (λ a. f a x) xs ≡ 20 * length xs
both_ways f pair x [] = omega arith
both_ways f pair x (y ∷ ys) =
    let rest = both_ways f pair x ys in
    omega (arith, rest, pair x y, sum_by-cons (f x) y ys, sum_by-cons (λ a. f a x) y ys)

-- one element more to gain from
one_more : (f : ℤ → ℤ → ℕ) (x : ℤ) (ys xs : List ℤ) →
    sum_by (λ a. sum_by (f a) (x ∷ ys)) xs ≡ sum_by (λ a. f a x) xs + sum_by (λ a. sum_by (f a) ys) xs
one_more f x ys [] = omega arith
one_more f x ys (a ∷ as') =
    let rest = one_more f x ys as' in
    omega (
      arith,
      rest,
      sum_by-cons (f a) x ys,
      sum_by-cons (λ b. sum_by (f b) (x ∷ ys)) a as',
      sum_by-cons (λ b. f b x) a as',
      sum_by-cons (λ b. sum_by (f b) ys) a as',
    )

-- all against all, themselves too
all_against_all : (f : ℤ → ℤ → ℕ) → ((a : ℤ) → f a a ≡ 10) → ((a b : ℤ) → f a b + f b a ≡ 20) → (xs : List ℤ) →
    sum_by (λ a. sum_by (f a) xs) xs ≡ 10 * (length xs * length xs)
all_against_all f self pair [] = omega arith
all_against_all f self pair (x ∷ xs) =
    let rest = all_against_all f self pair xs in
    omega (
      arith,
      rest,
      self x,
      both_ways f pair x xs,
      one_more f x xs xs,
      sum_by-cons (f x) x xs,
      sum_by-cons (λ a. sum_by (f a) (x ∷ xs)) x xs,
    )

-- the first elements against the others, and against themselves
first_against_others : (f : ℤ → ℤ → ℕ) → ((a : ℤ) → f a a ≡ 10) → (xs : List ℤ) (k : ℕ) → k ≤ length xs →
    sum (map (λ i. sum_by (f (get_or xs i (pos 0))) (remove xs i)) (range_with_len 0 k)) + 10 * k
    ≡ sum_by (λ a. sum_by (f a) xs) (take k xs)
first_against_others f self xs zero within = omega arith
first_against_others f self xs (suc k) within =
    let gain : ℕ → ℕ = λ i. sum_by (f (get_or xs i (pos 0))) (remove xs i) in
    let less : k < length xs = omega arith in
    let rest = first_against_others f self xs k (omega arith) in
    let next = sum_by-map-range_with_len_more (λ n. n) gain 0 k k (omega arith) in
    let others = sum_by-remove (f (get_or xs k (pos 0))) xs k (pos 0) less in
    let more = sum_by_more (λ a. sum_by (f a) xs) xs k (pos 0) less in
    let counted = ap (λ n. sum (map gain (range_with_len 0 n))) (add-one k) in
    let taken = ap (λ n. sum_by (λ a. sum_by (f a) xs) (take n xs)) (add-one k) in
    omega (arith, rest, next, others, more, counted, taken, self (get_or xs k (pos 0)))

-- each against the others
pub against_others : (f : ℤ → ℤ → ℕ) → ((a : ℤ) → f a a ≡ 10) → ((a b : ℤ) → f a b + f b a ≡ 20) → (xs : List ℤ) →
    sum (map (λ i. sum_by (f (get_or xs i (pos 0))) (remove xs i)) (range_with_len 0 (length xs))) + 10 * length xs
    ≡ 10 * (length xs * length xs)
against_others f self pair xs =
    first_against_others f self xs (length xs) (omega arith)
    ∙ ap (sum_by (λ a. sum_by (f a) xs)) (take_all (length xs) xs (omega arith)) ∙ all_against_all f self pair xs

-- a sum of so much, less ten for each element
pub without_own : (shared n : ℕ) → shared + 10 * n ≡ 10 * (n * n) → shared ≡ 10 * (n * (n - 1))
without_own shared n e =
    elim (cases_lt 0 n) [
      | inl some ↦ let square : n * n ≡ n * (n - 1 + 1) = ap (λ k. n * k) (omega arith) in omega (arith, square, e)
      | inr none ↦
          let empty : n ≡ 0 = omega arith in
          let square : n * n ≡ 0 = ap (λ k. k * k) empty in
          let due : n * (n - 1) ≡ 0 = ap (λ k. k * (k - 1)) empty in omega (arith, square, due, e)
    ]

-- Gains of signed numbers, of which what one element wins another loses

int_both_ways : (f : ℤ → ℤ → ℤ) → ((a b : ℤ) → f a b +ℤ f b a ≡ pos 0) → (x : ℤ) (xs : List ℤ) →
    int_sum_by (f x) xs +ℤ int_sum_by (λ a. f a x) xs ≡ pos 0
int_both_ways f pair x [] = omega (arith, ints)
int_both_ways f pair x (y ∷ ys) =
    let rest = int_both_ways f pair x ys in
    omega (arith, ints, rest, pair x y, int_sum_by-cons (f x) y ys, int_sum_by-cons (λ a. f a x) y ys)

int_one_more : (f : ℤ → ℤ → ℤ) (x : ℤ) (ys xs : List ℤ) →
    int_sum_by (λ a. int_sum_by (f a) (x ∷ ys)) xs
    ≡ int_sum_by (λ a. f a x) xs +ℤ int_sum_by (λ a. int_sum_by (f a) ys) xs
int_one_more f x ys [] = omega (arith, ints)
int_one_more f x ys (a ∷ as') =
    let rest = int_one_more f x ys as' in
    omega (
      arith,
      ints,
      rest,
      int_sum_by-cons (f a) x ys,
      int_sum_by-cons (λ b. int_sum_by (f b) (x ∷ ys)) a as',
      int_sum_by-cons (λ b. f b x) a as',
      int_sum_by-cons (λ b. int_sum_by (f b) ys) a as',
    )

int_all_against_all : (f : ℤ → ℤ → ℤ) → ((a : ℤ) → f a a ≡ pos 0) → ((a b : ℤ) → f a b +ℤ f b a ≡ pos 0) →
    (xs : List ℤ) → int_sum_by (λ a. int_sum_by (f a) xs) xs ≡ pos 0
int_all_against_all f self pair [] = omega (arith, ints)
int_all_against_all f self pair (x ∷ xs) =
    let rest = int_all_against_all f self pair xs in
    omega (
      arith,
      ints,
      rest,
      self x,
      int_both_ways f pair x xs,
      int_one_more f x xs xs,
      int_sum_by-cons (f x) x xs,
      int_sum_by-cons (λ a. int_sum_by (f a) (x ∷ xs)) x xs,
    )

int_first_against_others : (f : ℤ → ℤ → ℤ) → ((a : ℤ) → f a a ≡ pos 0) → (xs : List ℤ) (k : ℕ) → k ≤ length xs →
    int_sum (map (λ i. int_sum_by (f (get_or xs i (pos 0))) (remove xs i)) (range_with_len 0 k))
    ≡ int_sum_by (λ a. int_sum_by (f a) xs) (take k xs)
int_first_against_others f self xs zero within = omega (arith, ints)
int_first_against_others f self xs (suc k) within =
    let gain : ℕ → ℤ = λ i. int_sum_by (f (get_or xs i (pos 0))) (remove xs i) in
    let less : k < length xs = omega arith in
    let rest = int_first_against_others f self xs k (omega arith) in
    let longer = ap int_sum (map-range_with_len_more gain 0 k k (omega arith)) in
    let next = int_sum_by-append (λ n. n) (map gain (range_with_len 0 k)) (gain k ∷ []) in
    let last = int_sum_by-cons (λ n. n) (gain k) [] in
    let others = int_sum_by-remove (f (get_or xs k (pos 0))) xs k less in
    let more = int_sum_by_more (λ a. int_sum_by (f a) xs) xs k (pos 0) less in
    let counted = ap (λ n. int_sum (map gain (range_with_len 0 n))) (add-one k) in
    let taken = ap (λ n. int_sum_by (λ a. int_sum_by (f a) xs) (take n xs)) (add-one k) in
    omega (arith, ints, rest, longer, next, last, others, more, counted, taken, self (get_or xs k (pos 0)))

-- each against the others
pub int_against_others : (f : ℤ → ℤ → ℤ) → ((a : ℤ) → f a a ≡ pos 0) → ((a b : ℤ) → f a b +ℤ f b a ≡ pos 0) →
    (xs : List ℤ) →
    int_sum (map (λ i. int_sum_by (f (get_or xs i (pos 0))) (remove xs i)) (range_with_len 0 (length xs))) ≡ pos 0
int_against_others f self pair xs =
    int_first_against_others f self xs (length xs) (omega arith)
    ∙ ap (int_sum_by (λ a. int_sum_by (f a) xs)) (take_all (length xs) xs (omega arith))
    ∙ int_all_against_all f self pair xs
