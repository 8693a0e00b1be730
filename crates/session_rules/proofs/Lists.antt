-- Lists whose elements are seen in another way.
use Rattle.std.proofs.Common.{◌≡◌, ◌+◌, ℕ, zero, suc, Bool, true, false, not, cond, List, [], ◌∷◌, ◌++◌, length, Option, Some, None, Result, Ok, Err, refl, sym, ap, ◌∙◌, arith, add-zero, inl, inr, subst}
use Rattle.std.specs.Prelude.{All, map, position, nat_lt, ok_or, slice_get, slice_set, OnOk, OnErr, MatchResult, IfSome}
use Rattle.std.specs.List.{position_or_len, range_with_len}
use Rattle.std.specs.Option.{option_map, option_map_or}
use Rattle.std.proofs.lemmas.Bool.{ltb-false}
use Rattle.std.proofs.lemmas.List.{length-map, set-get_or, map-set}
use Rattle.std.proofs.lemmas.Option.{slice_get_past, get_or_from_slice_get, slice_get-map, slice_get_cases}
use Rattle.session_rules.specs.State.{changed_at}

-- the first index that passes a test is where the first of the things seen passes
pub position_or_len-map : {X Y : Type 0} (p : Y → Bool) (q : X → Bool) (f : X → Y) (xs : List X) → All (λ x. p (f x) ≡ q x) xs → position_or_len p (map f xs) ≡ position_or_len q xs
position_or_len-map p q f [] same = refl
position_or_len-map {X} {Y} p q f (x ∷ xs) same =
    let here : p (f x) ≡ q x = same zero x (omega arith) in
    let rest : position_or_len p (map f xs) ≡ position_or_len q xs = position_or_len-map p q f xs (λ k d within. same (suc k) d (omega arith)) in
    ap (λ b. cond (not b) (1 + position_or_len p (map f xs)) 0) here ∙ ap (λ n. cond (not (q x)) (1 + n) 0) rest

pub position-map : {X Y : Type 0} (p : Y → Bool) (q : X → Bool) (f : X → Y) (xs : List X) → All (λ x. p (f x) ≡ q x) xs → position p (map f xs) ≡ position q xs
position-map p q f xs same =
    let index = position_or_len-map p q f xs same in
    ap (λ n. cond (nat_lt n (length (map f xs))) (Some n) None) index
    ∙ ap (λ n. cond (nat_lt (position_or_len q xs) n) (Some (position_or_len q xs)) None) (length-map xs f)

-- the index that is found is the first that passes
found_index : (b : Bool) (n i : ℕ) → ◌≡◌ {A = Option ℕ} (cond b (Some n) None) (Some i) → i ≡ n
found_index true n i e = cc
found_index false n i e = absurd cc

none_found : (b : Bool) (n : ℕ) → ◌≡◌ {A = Option ℕ} (cond b (Some n) None) None → b ≡ false
none_found true n e = absurd cc
none_found false n e = refl

pub position_is : {X : Type 0} (p : X → Bool) (xs : List X) (i : ℕ) → position p xs ≡ Some i → i ≡ position_or_len p xs
position_is p xs i e = found_index (nat_lt (position_or_len p xs) (length xs)) (position_or_len p xs) i e

-- where none passes there is nothing at the index
pub position_none : {X : Type 0} (p : X → Bool) (xs : List X) → position p xs ≡ None → slice_get xs (position_or_len p xs) ≡ None
position_none p xs e =
    let over = none_found (nat_lt (position_or_len p xs) (length xs)) (position_or_len p xs) e in
    slice_get_past xs (position_or_len p xs) (ltb-false (position_or_len p xs) (length xs) over)

-- a change at an index that the list has
pub changed_at-Some : {A : Type 0} (f : A → A) (xs : List A) (i : ℕ) (x : A) → slice_get xs i ≡ Some x → changed_at f xs i ≡ slice_set xs i (f x)
changed_at-Some f xs i x e = ap (λ found. option_map_or (λ y. slice_set xs i (f y)) found xs) e

-- one result after another
pub option_map-twice : {A B C : Type 0} (f : B → C) (g : A → B) (o : Option A) → option_map f (option_map g o) ≡ option_map (λ x. f (g x)) o
option_map-twice f g None = refl
option_map-twice f g (Some x) = refl

-- from what holds at an answer of either kind
pub at_result : {E : Type 0} (A B G : Type 0) (r : Result (Unit {0}) E) → OnOk r A → OnErr r B → (r ≡ Ok tt → A → G) → (B → G) → G
at_result A B G (Ok done) accepted unchanged here there = here refl accepted
at_result A B G (Err refused) accepted unchanged here there = there unchanged

-- an answer that was given is Ok only where the test that refuses failed
pub not_refused : {E : Type 0} (b : Bool) (e : E) (rest : Result (Unit {0}) E) → cond b (Err e) rest ≡ Ok tt → b ≡ false
not_refused true e rest is = absurd cc
not_refused false e rest is = refl

pub not_true : (b : Bool) → not b ≡ true → b ≡ false
not_true true e = absurd cc
not_true false e = refl

pub not_false : (b : Bool) → not b ≡ false → b ≡ true
not_false true e = refl
not_false false e = absurd cc

-- what follows at an answer Ok
pub map_ok : {E : Type 0} (A B : Type 0) (r : Result (Unit {0}) E) → OnOk r A → (r ≡ Ok tt → A → B) → OnOk r B
map_ok A B (Ok done) accepted then = then refl accepted
map_ok A B (Err refused) accepted then = tt

-- one number more
pub range-push : (a n : ℕ) → range_with_len a (suc n) ≡ range_with_len a n ++ (a + n) ∷ []
range-push a zero = ap (λ k. k ∷ []) (sym (add-zero a))
range-push a (suc n) =
    let next : a + 1 + n ≡ a + suc n = omega arith in
    ap (λ ks. a ∷ ks) (range-push (a + 1) n ∙ ap (λ k. range_with_len (a + 1) n ++ k ∷ []) next)

-- what follows at an answer Err
pub map_err : {E : Type 0} (A B : Type 0) (r : Result (Unit {0}) E) → OnErr r A → (A → B) → OnErr r B
map_err A B (Ok done) refused then = tt
map_err A B (Err e) refused then = then refused

-- an element that is written back
pub set_there : {X : Type 0} (xs : List X) (i : ℕ) (x : X) → slice_get xs i ≡ Some x → slice_set xs i x ≡ xs
set_there xs i x is = ap (slice_set xs i) (sym (get_or_from_slice_get xs i x x is)) ∙ set-get_or xs i x

pub changed_at-None : {A : Type 0} (f : A → A) (xs : List A) (i : ℕ) → slice_get xs i ≡ None → changed_at f xs i ≡ xs
changed_at-None f xs i e = ap (λ found. option_map_or (λ y. slice_set xs i (f y)) found xs) e

-- from what holds of either part of an answer
pub match_map : {T E : Type 0} (P Q : T → Type 0) (F G : E → Type 0) (r : Result T E) → MatchResult r P F → ((v : T) → P v → Q v) → ((e : E) → F e → G e) → MatchResult r Q G
match_map P Q F G (Ok v) holds there other = there v holds
match_map P Q F G (Err e) holds there other = other e holds

-- a change that leaves what is asked for
pub map-changed_at : {A B : Type 0} (v : A → B) (f : A → A) (xs : List A) (i : ℕ) → ((x : A) → v (f x) ≡ v x) → map v (changed_at f xs i) ≡ map v xs
map-changed_at v f xs i same =
    elim (slice_get_cases xs i).1 [
      | inl (x, within, is, found) ↦
          ap (map v) (changed_at-Some f xs i x is)
          ∙ map-set v xs i (f x)
          ∙ set_there (map v xs) i (v (f x)) (slice_get-map v xs i ∙ ap (option_map v) is ∙ ap Some (sym (same x)))
      | inr (past, none) ↦ ap (map v) (changed_at-None f xs i none)
    ]

-- what holds of each element holds of the one at an index
pub all_at : {X : Type 0} (P : X → Type 0) (xs : List X) (i : ℕ) → All P xs → IfSome (slice_get xs i) P
all_at P xs i all =
    elim (slice_get_cases xs i).1 [
      | inl (x, within, is, found) ↦ subst (λ o. IfSome o P) (sym is) (subst P found (all i x within))
      | inr (past, none) ↦ subst (λ o. IfSome o P) (sym none) tt
    ]

-- a value that is there, or an error in its place
pub some_or : {A E : Type 0} (o : Option A) (e : E) (x : A) → ok_or o e ≡ Ok x → o ≡ Some x
some_or None e x is = absurd cc
some_or (Some y) e x is = let same : y ≡ x = cc in ap Some same

pub none_or : {A E : Type 0} (o : Option A) (e y : E) → ok_or o e ≡ Err y → (o ≡ None) × (y ≡ e)
none_or None e y is = (refl, cc)
none_or (Some x) e y is = absurd cc
