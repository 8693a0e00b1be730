-- The first element that passes a test.
use Rattle.std.proofs.Common.{◌≡◌, ℕ, ◌+◌, ◌-◌, ◌<◌, ◌≤◌, zero, suc, Bool, true, false, List, [], ◌∷◌, length, get_or, take, Option, Some, None, refl, sym, ap, ◌∙◌, subst, arith}
use Rattle.std.specs.Prelude.{if◌then◌else◌}
use Rattle.std.specs.List.{find, range_with_len}
use Rattle.std.proofs.Math.Seq.{take-length}
use Rattle.std.proofs.lemmas.List.FromFn.{length-range_with_len, get_or-range_with_len}

-- the first does not pass, nor another
passed : {X : Type 0} (b : Bool) (x : X) (o : Option X) → (if b then Some x else o) ≡ None → (b ≡ false) × (o ≡ None)
passed true x o none = absurd (cc)
passed false x o none = (refl, none)

-- of those before an index none passes, but the one there
found : {X : Type 0} (p : X → Bool) (xs : List X) (i : ℕ) (d : X) → i < length xs → find p (take i xs) ≡ None → p (get_or xs i d) ≡ true → find p xs ≡ Some (get_or xs i d)
found p [] i d within none this = absurd (omega (arith, within))
found p (x ∷ xs) zero d within none this = rw this refl
found p (x ∷ xs) (suc i) d within none this =
    let both = passed (p x) x (find p (take i xs)) none in
    rw both.0 (found p xs i d (omega (arith, within)) both.1 this)

-- nor the one there
none_more : {X : Type 0} (p : X → Bool) (xs : List X) (i : ℕ) (d : X) → i < length xs → find p (take i xs) ≡ None → p (get_or xs i d) ≡ false → find p (take (suc i) xs) ≡ None
none_more p [] i d within none this = absurd (omega (arith, within))
none_more p (x ∷ xs) zero d within none this = rw this refl
none_more p (x ∷ xs) (suc i) d within none this =
    let both = passed (p x) x (find p (take i xs)) none in
    rw both.0 (none_more p xs i d (omega (arith, within)) both.1 this)

-- the number there
number_there : (count n : ℕ) → 1 ≤ n → n ≤ count → get_or (range_with_len 1 count) (n - 1) 0 ≡ n
number_there count n least most = get_or-range_with_len 1 count (n - 1) 0 (omega arith) ∙ omega arith

-- the first number that passes
pub number_found : (p : ℕ → Bool) (count n : ℕ) → 1 ≤ n → n ≤ count → find p (take (n - 1) (range_with_len 1 count)) ≡ None → p n ≡ true → find p (range_with_len 1 count) ≡ Some n
number_found p count n least most none this =
    let there = number_there count n least most in
    found p (range_with_len 1 count) (n - 1) 0 (omega (arith, length-range_with_len 1 count)) none (ap p there ∙ this) ∙ ap (λ m. Some m) there

-- one number more that does not
pub number_missed : (p : ℕ → Bool) (count n : ℕ) → 1 ≤ n → n ≤ count → find p (take (n - 1) (range_with_len 1 count)) ≡ None → p n ≡ false → find p (take (n + 1 - 1) (range_with_len 1 count)) ≡ None
number_missed p count n least most none this =
    let next : suc (n - 1) ≡ n + 1 - 1 = omega arith in
    subst (λ i. find p (take i (range_with_len 1 count)) ≡ None) next
    (none_more p (range_with_len 1 count) (n - 1) 0 (omega (arith, length-range_with_len 1 count)) none (ap p (number_there count n least most) ∙ this))

-- none does
pub none_passes : (p : ℕ → Bool) (count n : ℕ) → n - 1 ≡ count → find p (take (n - 1) (range_with_len 1 count)) ≡ None → find p (range_with_len 1 count) ≡ None
none_passes p count n last none =
    let whole : take (n - 1) (range_with_len 1 count) ≡ range_with_len 1 count
    = ap (λ i. take i (range_with_len 1 count)) (last ∙ sym (length-range_with_len 1 count)) ∙ take-length (range_with_len 1 count) in
    subst (λ numbers. find p numbers ≡ None) whole none
