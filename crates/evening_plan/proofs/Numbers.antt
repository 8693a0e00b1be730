-- The texts of numbers that a loop has written.
use Rattle.std.proofs.Common.{◌≡◌, ℕ, ◌+◌, ◌-◌, ◌<◌, ◌≤◌, List, length, get_or, take, Option, Result, IsErr, sym, ap, ◌∙◌, subst, arith}
use Rattle.std.specs.Prelude.{flat_map}
use Rattle.std.specs.List.{range_with_len}
use Rattle.std.proofs.lemmas.List.FromFn.{length-range_with_len, get_or-range_with_len}
use Rattle.std.proofs.Math.Seq.{take-length}
use Rattle.line_text.specs.Streams.{between, Takes, TakesPrefix, Written}
use Rattle.page_layout.proofs.Walk.{one_taken, one_failed}

-- the index of a number
place_within : (count n : ℕ) → 1 ≤ n → n ≤ count → n - 1 < length (range_with_len 1 count)
place_within count n least most = omega (arith, length-range_with_len 1 count)

-- the number at that index
number_there : (count n d : ℕ) → 1 ≤ n → n ≤ count → n ≡ get_or (range_with_len 1 count) (n - 1) d
number_there count n d least most = sym (get_or-range_with_len 1 count (n - 1) d (omega arith) ∙ omega arith)

-- the text of the next number was taken
pub number_taken : (f : ℕ → List ℕ) (count n : ℕ) (a b c : Option (List ℕ)) → 1 ≤ n → n ≤ count → Takes (between a b) (flat_map f (take (n - 1) (range_with_len 1 count))) → Takes (between b c) (f n) → Takes (between a c) (flat_map f (take (n + 1 - 1) (range_with_len 1 count)))
number_taken f count n a b c least most first second =
    let next : n + 1 - 1 ≡ n - 1 + 1 = omega arith in
    subst (λ i. Takes (between a c) (flat_map f (take i (range_with_len 1 count)))) (sym next)
    (one_taken f (range_with_len 1 count) (n - 1) n a b c (place_within count n least most) (number_there count n n least most) first second)

-- the text of the next number failed, after those before it
pub number_failed : {E : Type 0} (f : ℕ → List ℕ) (count n : ℕ) (a b c : Option (List ℕ)) (result : Result (Unit {0}) E) → IsErr result → 1 ≤ n → n ≤ count → Takes (between a b) (flat_map f (take (n - 1) (range_with_len 1 count))) → TakesPrefix (between b c) (f n) → Written (between a c) (flat_map f (range_with_len 1 count)) result
number_failed f count n a b c result is least most first second =
    one_failed f (range_with_len 1 count) (n - 1) n a b c result first second is (number_there count n n least most) (place_within count n least most)

-- the texts of all numbers were taken
pub numbers_taken : (f : ℕ → List ℕ) (count n : ℕ) (a b : Option (List ℕ)) → n - 1 ≡ count → Takes (between a b) (flat_map f (take (n - 1) (range_with_len 1 count))) → Takes (between a b) (flat_map f (range_with_len 1 count))
numbers_taken f count n a b last taken =
    let whole : take (n - 1) (range_with_len 1 count) ≡ range_with_len 1 count
    = ap (λ i. take i (range_with_len 1 count)) (last ∙ sym (length-range_with_len 1 count)) ∙ take-length (range_with_len 1 count) in
    subst (λ numbers. Takes (between a b) (flat_map f numbers)) whole taken
