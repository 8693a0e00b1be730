-- The texts of elements that a loop has written.
use Rattle.std.proofs.Common.{◌≡◌, ℕ, ◌+◌, ◌-◌, ◌<◌, ◌≤◌, List, [], ◌∷◌, ◌++◌, length, get_or, take, drop, Option, Result, IsErr, sym, ap, ◌∙◌, append-nil, subst, arith}
use Rattle.std.specs.Prelude.{flat_map}
use Rattle.std.specs.List.{range_with_len}
use Rattle.std.proofs.lemmas.List.FromFn.{length-range_with_len, get_or-range_with_len}
use Rattle.std.proofs.KnownBytes.{Appends-trans}
use Rattle.std.proofs.lemmas.List.{take_more, take-append-drop}
use Rattle.std.proofs.Math.Seq.{take-length}
use Rattle.std.proofs.lemmas.List.Concat.{flat_map-append}
use Rattle.line_text.specs.Streams.{between, Takes, TakesPrefix, Written}
use Rattle.line_text.proofs.Streams.{takes_prefix}
use Rattle.page_layout.proofs.Walk.{failed_before}

-- the texts of one element more
texts_more : {X : Type 0} (f : X → List ℕ) (xs : List X) (i : ℕ) (d : X) → i < length xs → flat_map f (take (i + 1) xs) ≡ flat_map f (take i xs) ++ f (get_or xs i d)
texts_more f xs i d within =
    ap (flat_map f) (take_more xs i d within) ∙ flat_map-append f (take i xs) (get_or xs i d ∷ [])
    ∙ ap (λ last. flat_map f (take i xs) ++ last) (append-nil (f (get_or xs i d)))

-- they were taken
pub element_taken : {X : Type 0} (f : X → List ℕ) (xs : List X) (i : ℕ) (d : X) (a b c : Option (List ℕ)) → i < length xs → Takes (between a b) (flat_map f (take i xs)) → Takes (between b c) (f (get_or xs i d)) → Takes (between a c) (flat_map f (take (i + 1) xs))
element_taken f xs i d a b c within first second =
    subst (λ text. Takes (between a c) text) (sym (texts_more f xs i d within))
    (Appends-trans a b c (flat_map f (take i xs)) (f (get_or xs i d)) first second)

-- the text of an element failed, after those before it
pub element_failed : {X E : Type 0} (f : X → List ℕ) (xs : List X) (i : ℕ) (d : X) (a b c : Option (List ℕ)) (result : Result (Unit {0}) E) → IsErr result → i < length xs → Takes (between a b) (flat_map f (take i xs)) → TakesPrefix (between b c) (f (get_or xs i d)) → Written (between a c) (flat_map f xs) result
element_failed f xs i d a b c result is within first second =
    let whole : flat_map f xs ≡ (flat_map f (take i xs) ++ f (get_or xs i d)) ++ flat_map f (drop (i + 1) xs)
    = ap (flat_map f) (sym (take-append-drop (i + 1) xs)) ∙ flat_map-append f (take (i + 1) xs) (drop (i + 1) xs)
    ∙ ap (λ front. front ++ flat_map f (drop (i + 1) xs)) (texts_more f xs i d within) in
    subst (λ text. Written (between a c) text result) (sym whole)
    (failed_before a c (flat_map f (take i xs) ++ f (get_or xs i d)) (flat_map f (drop (i + 1) xs)) result is
    (takes_prefix a b c (flat_map f (take i xs)) (f (get_or xs i d)) first second))

-- the index of a number
place_within : (count n : ℕ) → 1 ≤ n → n ≤ count → n - 1 < length (range_with_len 1 count)
place_within count n least most = omega (arith, length-range_with_len 1 count)

-- the number at that index
number_there : (count n : ℕ) → 1 ≤ n → n ≤ count → get_or (range_with_len 1 count) (n - 1) 0 ≡ n
number_there count n least most = get_or-range_with_len 1 count (n - 1) 0 (omega arith) ∙ omega arith

-- the text of the next number was taken
pub number_taken : (f : ℕ → List ℕ) (count n : ℕ) (a b c : Option (List ℕ)) → 1 ≤ n → n ≤ count → Takes (between a b) (flat_map f (take (n - 1) (range_with_len 1 count))) → Takes (between b c) (f n) → Takes (between a c) (flat_map f (take (n + 1 - 1) (range_with_len 1 count)))
number_taken f count n a b c least most first second =
    let next : n + 1 - 1 ≡ n - 1 + 1 = omega arith in
    subst (λ i. Takes (between a c) (flat_map f (take i (range_with_len 1 count)))) (sym next)
    (element_taken f (range_with_len 1 count) (n - 1) 0 a b c (place_within count n least most) first
    (subst (λ m. Takes (between b c) (f m)) (sym (number_there count n least most)) second))

-- the text of the next number failed, after those before it
pub number_failed : {E : Type 0} (f : ℕ → List ℕ) (count n : ℕ) (a b c : Option (List ℕ)) (result : Result (Unit {0}) E) → IsErr result → 1 ≤ n → n ≤ count → Takes (between a b) (flat_map f (take (n - 1) (range_with_len 1 count))) → TakesPrefix (between b c) (f n) → Written (between a c) (flat_map f (range_with_len 1 count)) result
number_failed f count n a b c result is least most first second =
    element_failed f (range_with_len 1 count) (n - 1) 0 a b c result is (place_within count n least most) first
    (subst (λ m. TakesPrefix (between b c) (f m)) (sym (number_there count n least most)) second)

-- the texts of all numbers were taken
pub numbers_taken : (f : ℕ → List ℕ) (count n : ℕ) (a b : Option (List ℕ)) → n - 1 ≡ count → Takes (between a b) (flat_map f (take (n - 1) (range_with_len 1 count))) → Takes (between a b) (flat_map f (range_with_len 1 count))
numbers_taken f count n a b last taken =
    let whole : take (n - 1) (range_with_len 1 count) ≡ range_with_len 1 count
    = ap (λ i. take i (range_with_len 1 count)) (last ∙ sym (length-range_with_len 1 count)) ∙ take-length (range_with_len 1 count) in
    subst (λ numbers. Takes (between a b) (flat_map f numbers)) whole taken

-- the index of an index
index_there : (count n : ℕ) → n < count → get_or (range_with_len 0 count) n 0 ≡ n
index_there count n within = get_or-range_with_len 0 count n 0 within ∙ omega arith

-- the text of the next index was taken
pub index_taken : (f : ℕ → List ℕ) (count n : ℕ) (a b c : Option (List ℕ)) → n < count → Takes (between a b) (flat_map f (take n (range_with_len 0 count))) → Takes (between b c) (f n) → Takes (between a c) (flat_map f (take (n + 1) (range_with_len 0 count)))
index_taken f count n a b c within first second =
    element_taken f (range_with_len 0 count) n 0 a b c (omega (arith, length-range_with_len 0 count)) first
    (subst (λ m. Takes (between b c) (f m)) (sym (index_there count n within)) second)

-- the text of the next index failed, after those before it
pub index_failed : {E : Type 0} (f : ℕ → List ℕ) (count n : ℕ) (a b c : Option (List ℕ)) (result : Result (Unit {0}) E) → IsErr result → n < count → Takes (between a b) (flat_map f (take n (range_with_len 0 count))) → TakesPrefix (between b c) (f n) → Written (between a c) (flat_map f (range_with_len 0 count)) result
index_failed f count n a b c result is within first second =
    element_failed f (range_with_len 0 count) n 0 a b c result is (omega (arith, length-range_with_len 0 count)) first
    (subst (λ m. TakesPrefix (between b c) (f m)) (sym (index_there count n within)) second)

-- the texts of all indexes were taken
pub indexes_taken : (f : ℕ → List ℕ) (count n : ℕ) (a b : Option (List ℕ)) → n ≡ count → Takes (between a b) (flat_map f (take n (range_with_len 0 count))) → Takes (between a b) (flat_map f (range_with_len 0 count))
indexes_taken f count n a b last taken =
    let whole : take n (range_with_len 0 count) ≡ range_with_len 0 count
    = ap (λ i. take i (range_with_len 0 count)) (last ∙ sym (length-range_with_len 0 count)) ∙ take-length (range_with_len 0 count) in
    subst (λ numbers. Takes (between a b) (flat_map f numbers)) whole taken
