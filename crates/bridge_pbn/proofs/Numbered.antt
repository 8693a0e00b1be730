-- What is made of the numbers from 1 that a loop has passed.
use Rattle.std.proofs.Common.{◌≡◌, ℕ, ◌+◌, ◌-◌, ◌<◌, ◌≤◌, List, [], ◌∷◌, ◌++◌, length, get_or, take, drop, ap, ◌∙◌, arith, append-nil}
use Rattle.std.specs.Prelude.{flat_map}
use Rattle.std.specs.List.{range_with_len}
use Rattle.std.proofs.lemmas.List.Concat.{flat_map-append}
use Rattle.std.proofs.lemmas.List.FromFn.{length-range_with_len, get_or-range_with_len}
use Rattle.bridge_pbn.proofs.Walked.{made_more, made_whole}

-- the index of a number
place_within : (count n : ℕ) → 1 ≤ n → n ≤ count → n - 1 < length (range_with_len 1 count)
place_within count n least most = omega (arith, length-range_with_len 1 count)

-- what is made of that number alone
made_there : {Y : Type 0} (f : ℕ → List Y) (count n : ℕ) → 1 ≤ n → n ≤ count → flat_map f (get_or (range_with_len 1 count) (n - 1) 0 ∷ []) ≡ f n
made_there f count n least most =
    let there : get_or (range_with_len 1 count) (n - 1) 0 ≡ n = get_or-range_with_len 1 count (n - 1) 0 (omega arith) ∙ omega arith in
    append-nil (f (get_or (range_with_len 1 count) (n - 1) 0)) ∙ ap f there

-- of one number more
pub numbers_more : {Y : Type 0} (f : ℕ → List Y) (count n : ℕ) → 1 ≤ n → n ≤ count → flat_map f (take (n + 1 - 1) (range_with_len 1 count)) ≡ flat_map f (take (n - 1) (range_with_len 1 count)) ++ f n
numbers_more f count n least most =
    let next : n + 1 - 1 ≡ n - 1 + 1 = omega arith in
    ap (λ i. flat_map f (take i (range_with_len 1 count))) next
    ∙ made_more (flat_map f) (flat_map-append f) (range_with_len 1 count) (n - 1) 0 (place_within count n least most)
    ∙ ap (λ last. flat_map f (take (n - 1) (range_with_len 1 count)) ++ last) (made_there f count n least most)

-- of all numbers
pub numbers_whole : {Y : Type 0} (f : ℕ → List Y) (count n : ℕ) → 1 ≤ n → n ≤ count → flat_map f (range_with_len 1 count) ≡ (flat_map f (take (n - 1) (range_with_len 1 count)) ++ f n) ++ flat_map f (drop (n - 1 + 1) (range_with_len 1 count))
numbers_whole f count n least most =
    made_whole (flat_map f) (flat_map-append f) (range_with_len 1 count) (n - 1) 0 (place_within count n least most)
    ∙ ap (λ last. (flat_map f (take (n - 1) (range_with_len 1 count)) ++ last) ++ flat_map f (drop (n - 1 + 1) (range_with_len 1 count))) (made_there f count n least most)
