-- Lists that are read element by element.
use Rattle.std.proofs.Common.{◌≡◌, ◌+◌, ◌*◌, ◌<◌, ℕ, zero, suc, List, [], ◌∷◌, ◌++◌, length, get_or, map, take, drop, Some, refl, sym, ap, ◌∙◌, subst, arith, inl, inr, length-append}
use Rattle.std.specs.Prelude.{All, IfSome, slice_get, slice_set, flat_map}
use Rattle.std.specs.Option.{option_map}
use Rattle.std.proofs.lemmas.Bool.{cases_lt}
use Rattle.std.proofs.lemmas.List.{take_at, drop_at, drop-drop, map-set}
use Rattle.std.proofs.lemmas.Option.{slice_get_read, slice_get-map, slice_get_cases, slice_get_within}
use Rattle.bridge_cards.proofs.FollowLaws.{slice_get-left, slice_get-seam}
use Rattle.session_rules.proofs.Lists.{all_at, set_there}
use Rattle.session_rules.proofs.StaysValid.{mapped_from, none_of}

-- what holds of all holds of the one at an index
pub all_there : {X : Type 0} (P : X → Type 0) (xs : List X) (i : ℕ) (x : X) → All P xs → slice_get xs i ≡ Some x → P x
all_there P xs i x all is = subst (λ o. IfSome o P) is (all_at P xs i all)

-- where two lists are seen as one, the elements at an index are
pub mapped_at : {A B X : Type 0} (f : A → B) (g : X → B) (ys : List A) (xs : List X) (i : ℕ) (x : X) → map f ys ≡ map g xs → i < length xs → x ≡ get_or xs i x
    → (a : A) × (slice_get ys i ≡ Some a) × (f a ≡ g x)
mapped_at f g ys xs i x same within is =
    let there : slice_get xs i ≡ Some x = slice_get_read xs (length xs) i x refl within is in
    mapped_from f ys i (g x) (ap (λ zs. slice_get zs i) same ∙ slice_get-map g xs i ∙ ap (option_map g) there)

-- there is an element at an index within
pub some_there : {X : Type 0} (xs : List X) (i : ℕ) → i < length xs → (x : X) × (slice_get xs i ≡ Some x)
some_there xs i within =
    elim (slice_get_cases xs i).1 [
      | inl (x, inside, found, read) ↦ (x, found)
      | inr (past, none) ↦ absurd (omega (arith, within, past))
    ]

-- what holds at each index of two lists holds with one more of each
pub both_push : {A B : Type 0} (P : A → B → Type 0) (xs : List A) (ys : List B) (x : A) (y : B) → length ys ≡ length xs
    → ((index : ℕ) (a : A) (b : B) → slice_get xs index ≡ Some a → slice_get ys index ≡ Some b → P a b) → P x y
    → (index : ℕ) (a : A) (b : B) → slice_get (xs ++ x ∷ []) index ≡ Some a → slice_get (ys ++ y ∷ []) index ≡ Some b → P a b
both_push {A} {B} P xs ys x y same each holds index a b first second =
    elim (cases_lt index (length xs)) [
      | inl before ↦
          each index a b (sym (slice_get-left xs (x ∷ []) index before) ∙ first)
          (sym (slice_get-left ys (y ∷ []) index (omega (arith, before, same))) ∙ second)
      | inr from ↦
          let within = slice_get_within (xs ++ x ∷ []) index a first in
          let last : index ≡ length xs = omega (arith, within, from, length-append xs (x ∷ [])) in
          let last_too : index ≡ length ys = omega (arith, last, same) in
          let one : Some a ≡ Some x = sym first ∙ ap (slice_get (xs ++ x ∷ [])) last ∙ slice_get-seam xs x [] in
          let two : Some b ≡ Some y = sym second ∙ ap (slice_get (ys ++ y ∷ [])) last_too ∙ slice_get-seam ys y [] in
          let a_is : a ≡ x = cc in
          let b_is : b ≡ y = cc in
          subst (λ z. P z b) (sym a_is) (subst (λ z. P x z) (sym b_is) holds)
    ]

zero_times : (n : ℕ) → 0 * n ≡ 0
zero_times n = omega arith

pub suc_times : (i n : ℕ) → suc i * n ≡ n + i * n
suc_times i n = omega arith

-- the lists of a fixed length of which a list is joined
pub flat_at : {X Y : Type 0} (f : X → List Y) (n : ℕ) → ((x : X) → length (f x) ≡ n) → (i : ℕ) (xs : List X) (x : X) → slice_get xs i ≡ Some x
    → take n (drop (i * n) (flat_map f xs)) ≡ f x
flat_at {X} f n fixed i [] x is = absurd (none_of i x is)
flat_at f n fixed zero (y ∷ ys) x is =
    let same : y ≡ x = cc in
    ap (λ k. take n (drop k (f y ++ flat_map f ys))) (zero_times n) ∙ take_at (f y) (flat_map f ys) n (fixed y) ∙ ap f same
flat_at f n fixed (suc i) (y ∷ ys) x is =
    ap (λ k. take n (drop k (f y ++ flat_map f ys))) (suc_times i n)
    ∙ ap (take n) (sym (drop-drop (i * n) n (f y ++ flat_map f ys)))
    ∙ ap (λ zs. take n (drop (i * n) zs)) (drop_at (f y) (flat_map f ys) n (fixed y))
    ∙ flat_at f n fixed i ys x is

-- an element that is seen as the one before it in its place
pub set_same : {A B : Type 0} (f : A → B) (xs : List A) (i : ℕ) (x y : A) → i < length xs → x ≡ get_or xs i x → f y ≡ f x → map f (slice_set xs i y) ≡ map f xs
set_same f xs i x y within is same =
    map-set f xs i y
    ∙ set_there (map f xs) i (f y) (slice_get-map f xs i ∙ ap (option_map f) (slice_get_read xs (length xs) i x refl within is) ∙ ap Some (sym same))
