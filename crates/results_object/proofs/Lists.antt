-- Lists of values of JSON, one element after another.
use Rattle.std.proofs.Common.{◌≡◌, ℕ, ◌+◌, ◌-◌, ◌<◌, ◌≤◌, List, [], ◌∷◌, ◌++◌, length, get_or, take, map, refl, sym, ap, ◌∙◌, subst, arith, rules}
use Rattle.std.specs.List.{range_with_len}
use Rattle.std.proofs.Math.Seq.{take-length}
use Rattle.std.proofs.lemmas.List.{map-append, take_more}
use Rattle.std.proofs.lemmas.List.FromFn.{length-range_with_len, get_or-range_with_len}
use Rattle.serde_json.specs.Data.{Data, null}
use Rattle.serde_json.specs.View.{view}
use Rattle.serde_json.specs.declared.value.Value.{Value, Null, the_lemmas}

-- what nothing is
pub view-null : view Null ≡ null
view-null = search (rules, the_lemmas)

-- one value more
pub one_more : {X : Type 0} (f : X → Data) (xs : List X) (i : ℕ) (x : X) (values new : List Value) (value : Value) → i < length xs → x ≡ get_or xs i x
    → map view values ≡ map f (take i xs) → view value ≡ f x → new ≡ values ++ value ∷ [] → map view new ≡ map f (take (i + 1) xs)
one_more f xs i x values new value within is so_far this added =
    ap (map view) added ∙ map-append view values (value ∷ []) ∙ rw (so_far, this) refl
    ∙ sym (ap (map f) (take_more xs i x within) ∙ map-append f (take i xs) (get_or xs i x ∷ []) ∙ ap (λ last. map f (take i xs) ++ f last ∷ []) (sym is))

-- one number more, of those from 1
pub number_more : (f : ℕ → Data) (count n : ℕ) (values new : List Value) (value : Value) → 1 ≤ n → n ≤ count
    → map view values ≡ map f (take (n - 1) (range_with_len 1 count)) → view value ≡ f n → new ≡ values ++ value ∷ []
    → map view new ≡ map f (take (n + 1 - 1) (range_with_len 1 count))
number_more f count n values new value least most so_far this added =
    let next : n + 1 - 1 ≡ n - 1 + 1 = omega arith in
    let within : n - 1 < length (range_with_len 1 count) = omega (arith, length-range_with_len 1 count) in
    let there : n ≡ get_or (range_with_len 1 count) (n - 1) n = omega (arith, get_or-range_with_len 1 count (n - 1) n (omega arith)) in
    subst (λ i. map view new ≡ map f (take i (range_with_len 1 count))) (sym next)
    (one_more f (range_with_len 1 count) (n - 1) n values new value within there so_far this added)

-- all of them
pub all_numbers : (f : ℕ → Data) (count n : ℕ) (values : List Value) → n - 1 ≡ count
    → map view values ≡ map f (take (n - 1) (range_with_len 1 count)) → map view values ≡ map f (range_with_len 1 count)
all_numbers f count n values last so_far =
    so_far ∙ ap (map f) (ap (λ i. take i (range_with_len 1 count)) (last ∙ sym (length-range_with_len 1 count)) ∙ take-length (range_with_len 1 count))
