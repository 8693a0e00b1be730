-- Sums of signed numbers.
use Rattle.std.proofs.Common.{ℕ, ◌≡◌, ◌+◌, ◌<◌, List, [], ◌∷◌, ◌++◌, length, take, drop, get_or, ℤ, pos, ◌+ℤ◌, fold, ap, sym, ◌∙◌, suc, arith, remove, add-one, ◌-◌, sum_by}
use Rattle.std.proofs.lemmas.Int.{ints, to_z-of_z}
use mir.Syntax.{Width, w32}
use mir.Val.{SFits, of_z, to_z}
use Rattle.std.proofs.lemmas.List.Sums.{fold_more, fold-append, sum_by-append}
use Rattle.std.proofs.lemmas.List.{take_rest, take-append-drop}
use Rattle.bridge_score.specs.Comparison.{int_sum_by}

-- one element more
pub int_sum_by_more : {X : Type 0} (f : X → ℤ) (xs : List X) (i : ℕ) (d : X) → i < length xs →
    int_sum_by f (take (i + 1) xs) ≡ int_sum_by f (take i xs) +ℤ f (get_or xs i d)
int_sum_by_more f xs i d h = fold_more (λ total x. total +ℤ f x) (pos 0) xs i d h

-- a sum that begins at another number
pub int_sum_by_from : {X : Type 0} (f : X → ℤ) (start : ℤ) (xs : List X) →
    fold (λ total x. total +ℤ f x) start xs ≡ start +ℤ int_sum_by f xs
int_sum_by_from f start [] = omega (arith, ints)
int_sum_by_from f start (x ∷ xs) =
    let here = int_sum_by_from f (start +ℤ f x) xs in
    let there = int_sum_by_from f (pos 0 +ℤ f x) xs in omega (arith, ints, here, there)

pub int_sum_by-append : {X : Type 0} (f : X → ℤ) (xs ys : List X) →
    int_sum_by f (xs ++ ys) ≡ int_sum_by f xs +ℤ int_sum_by f ys
int_sum_by-append f xs ys =
    fold-append (λ total x. total +ℤ f x) (pos 0) xs ys ∙ int_sum_by_from f (int_sum_by f xs) ys

-- a sum as the code adds to it
pub added : (w : Width) (before gained after : ℤ) → SFits w gained → SFits w (before +ℤ gained) →
    after ≡ before +ℤ gained → to_z w (of_z w (before +ℤ to_z w (of_z w gained))) ≡ after
added w before gained after fits_gained fits e =
    ap (λ z. to_z w (of_z w (before +ℤ z))) (to_z-of_z w gained fits_gained) ∙ to_z-of_z w (before +ℤ gained) fits
    ∙ sym e

pub added_both : (before gained after : ℤ) → SFits w32 before → SFits w32 gained → SFits w32 (before +ℤ gained) →
    after ≡ before +ℤ gained →
    to_z w32 (of_z w32 (to_z w32 (of_z w32 before) +ℤ to_z w32 (of_z w32 gained))) ≡ after
added_both before gained after fits_before fits_gained fits e =
    ap (λ z. to_z w32 (of_z w32 (z +ℤ to_z w32 (of_z w32 gained)))) (to_z-of_z w32 before fits_before)
    ∙ added w32 before gained after fits_gained fits e

-- a loop's step, as the code adds what an element gives
pub added_for : (f : ℤ → ℤ) (xs : List ℤ) (i : ℕ) (before gained x : ℤ) → i < length xs →
    before ≡ int_sum_by f (take i xs) → x ≡ get_or xs i (pos 0) → gained ≡ f x → SFits w32 gained →
    SFits w32 (before +ℤ gained) →
    to_z w32 (of_z w32 (before +ℤ to_z w32 (of_z w32 gained))) ≡ int_sum_by f (take (i + 1) xs)
added_for f xs i before gained x within sum at here fits_gained fits =
    let more = int_sum_by_more f xs i (pos 0) within in
    let same : gained ≡ f (get_or xs i (pos 0)) = here ∙ ap f at in
    added w32 before gained (int_sum_by f (take (i + 1) xs)) fits_gained fits
    (more ∙ ap (λ z. z +ℤ f (get_or xs i (pos 0))) (sym sum) ∙ ap (λ z. before +ℤ z) (sym same))

-- the elements after one, as the code reads them
rest_after : {X : Type 0} (xs : List X) (i : ℕ) → take (length xs - (i + 1)) (drop (i + 1) xs) ≡ drop (suc i) xs
rest_after xs i = take_rest xs (i + 1) ∙ ap (λ n. drop n xs) (add-one i)

-- the other elements stand before one and after it
pub sum_by-others : {X : Type 0} (f : X → ℕ) (xs : List X) (i before after : ℕ) → before ≡ sum_by f (take i xs) →
    after ≡ sum_by f (take (length xs - (i + 1)) (drop (i + 1) xs)) → before + after ≡ sum_by f (remove xs i)
sum_by-others f xs i before after e g =
    let whole = sum_by-append f (take i xs) (drop (suc i) xs) in
    let rest = g ∙ ap (sum_by f) (rest_after xs i) in
    ap (λ n. n + after) e ∙ ap (λ n. sum_by f (take i xs) + n) rest ∙ sym whole

pub int_sum_by-others : (f : ℤ → ℤ) (xs : List ℤ) (i : ℕ) (before after : ℤ) →
    before ≡ int_sum_by f (take i xs) → after ≡ int_sum_by f (take (length xs - (i + 1)) (drop (i + 1) xs)) →
    before +ℤ after ≡ int_sum_by f (remove xs i)
int_sum_by-others f xs i before after e g =
    let whole = int_sum_by-append f (take i xs) (drop (suc i) xs) in
    let rest = g ∙ ap (int_sum_by f) (rest_after xs i) in
    ap (λ n. n +ℤ after) e ∙ ap (λ n. int_sum_by f (take i xs) +ℤ n) rest ∙ sym whole

pub int_sum_by-cons : {X : Type 0} (f : X → ℤ) (x : X) (xs : List X) →
    int_sum_by f (x ∷ xs) ≡ f x +ℤ int_sum_by f xs
int_sum_by-cons f x xs = omega (arith, ints, int_sum_by_from f (pos 0 +ℤ f x) xs)

-- the other elements and the one
pub int_sum_by-remove : (f : ℤ → ℤ) (xs : List ℤ) (i : ℕ) → i < length xs →
    int_sum_by f (remove xs i) +ℤ f (get_or xs i (pos 0)) ≡ int_sum_by f xs
int_sum_by-remove f xs i within =
    let others = int_sum_by-append f (take i xs) (drop (suc i) xs) in
    let front = int_sum_by_more f xs i (pos 0) within in
    let whole : int_sum_by f (take (i + 1) xs ++ drop (i + 1) xs) ≡ int_sum_by f xs =
    ap (int_sum_by f) (take-append-drop (i + 1) xs) in
    let parts = int_sum_by-append f (take (i + 1) xs) (drop (i + 1) xs) in
    let rest = ap (λ n. int_sum_by f (drop n xs)) (add-one i) in
    omega (arith, ints, others, front, whole, parts, rest)
