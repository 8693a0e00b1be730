-- What was found on the boards of a session, one after another.
use Rattle.std.proofs.Common.{◌≡◌, ℕ, ◌+◌, ◌-◌, ◌<◌, ◌≤◌, List, [], ◌∷◌, ◌++◌, length, get_or, take, sym, ap, ◌∙◌, arith, append-nil}
use Rattle.std.specs.Prelude.{map, flat_map}
use Rattle.std.specs.List.{range_with_len}
use Rattle.std.proofs.lemmas.List.FromFn.{length-range_with_len, get_or-range_with_len}
use Rattle.std.proofs.lemmas.List.{take_more, map-append}
use Rattle.std.proofs.lemmas.List.Concat.{flat_map-append}
use Rattle.std.proofs.Math.Seq.{take-length}

-- what is due on one number more
due_more : {Y : Type 0} (f : ℕ → Y) (count n : ℕ) → 1 ≤ n → n ≤ count → map f (take (n + 1 - 1) (range_with_len 1 count)) ≡ map f (take (n - 1) (range_with_len 1 count)) ++ f n ∷ []
due_more f count n least most =
    let range = range_with_len 1 count in
    let next : n + 1 - 1 ≡ n - 1 + 1 = omega arith in
    let within : n - 1 < length range = omega (arith, length-range_with_len 1 count) in
    let there : get_or range (n - 1) 0 ≡ n = get_or-range_with_len 1 count (n - 1) 0 (omega arith) ∙ omega arith in
    ap (λ i. map f (take i range)) next ∙ ap (map f) (take_more range (n - 1) 0 within)
    ∙ map-append f (take (n - 1) range) (get_or range (n - 1) 0 ∷ []) ∙ ap (λ m. map f (take (n - 1) range) ++ f m ∷ []) there

-- what was found on one number more is what is due
pub found_more : {X Y : Type 0} (seen : X → Y) (f : ℕ → Y) (found : List X) (x : X) (count n : ℕ) → 1 ≤ n → n ≤ count → map seen found ≡ map f (take (n - 1) (range_with_len 1 count)) → seen x ≡ f n → map seen (found ++ x ∷ []) ≡ map f (take (n + 1 - 1) (range_with_len 1 count))
found_more seen f found x count n least most before next =
    map-append seen found (x ∷ []) ∙ ap (λ ys. ys ++ seen x ∷ []) before
    ∙ ap (λ y. map f (take (n - 1) (range_with_len 1 count)) ++ y ∷ []) next ∙ sym (due_more f count n least most)

-- and on all numbers
pub found_all : {Y : Type 0} (f : ℕ → Y) (count n : ℕ) → n - 1 ≡ count → map f (take (n - 1) (range_with_len 1 count)) ≡ map f (range_with_len 1 count)
found_all f count n last =
    ap (λ i. map f (take i (range_with_len 1 count))) (last ∙ sym (length-range_with_len 1 count)) ∙ ap (map f) (take-length (range_with_len 1 count))

-- the elements of a list up to the next, each as something else
pub one_mapped : {X Y : Type 0} (f : X → Y) (xs : List X) (i : ℕ) (x : X) (ys : List Y) → i < length xs → x ≡ get_or xs i x → ys ≡ map f (take i xs) → ys ++ f x ∷ [] ≡ map f (take (i + 1) xs)
one_mapped f xs i x ys within is before =
    ap (λ first. first ++ f x ∷ []) before ∙ ap (λ y. map f (take i xs) ++ f y ∷ []) is
    ∙ sym (ap (map f) (take_more xs i x within) ∙ map-append f (take i xs) (get_or xs i x ∷ []))

-- what the elements of a list up to the next give
pub one_more : {X Y : Type 0} (f : X → List Y) (xs : List X) (i : ℕ) (x : X) (ys zs : List Y) → i < length xs → x ≡ get_or xs i x → ys ≡ flat_map f (take i xs) → zs ≡ ys ++ f x → zs ≡ flat_map f (take (i + 1) xs)
one_more f xs i x ys zs within is before next =
    next ∙ ap (λ first. first ++ f x) before ∙ ap (λ y. flat_map f (take i xs) ++ f y) is
    ∙ sym (ap (flat_map f) (take_more xs i x within) ∙ flat_map-append f (take i xs) (get_or xs i x ∷ []) ∙ ap (λ last. flat_map f (take i xs) ++ last) (append-nil (f (get_or xs i x))))
