-- Texts written one after another.
use Rattle.std.proofs.Common.{◌≡◌, ℕ, ◌+◌, ◌<◌, List, [], ◌∷◌, ◌++◌, length, get_or, take, drop, Option, Result, Ok, Err, IsErr, sym, ap, ◌∙◌, append-nil, subst}
use Rattle.std.specs.Prelude.{flat_map}
use Rattle.std.proofs.KnownBytes.{Appends-trans}
use Rattle.std.proofs.lemmas.List.{take_more, take-append-drop}
use Rattle.std.proofs.lemmas.List.Concat.{flat_map-append}
use Rattle.line_text.specs.Streams.{between, Takes, TakesPrefix, Written}
use Rattle.line_text.proofs.Streams.{takes_prefix, prefix_longer, written_error}

-- a text that was taken, and then another that was written
pub then_written : {E : Type 0} (a b c : Option (List ℕ)) (xs ys : List ℕ) (result : Result (Unit {0}) E) → Takes (between a b) xs → Written (between b c) ys result → Written (between a c) (xs ++ ys) result
then_written a b c xs ys (Ok u) first second = Appends-trans a b c xs ys first second
then_written a b c xs ys (Err e) first second = takes_prefix a b c xs ys first second

-- a text that failed, before another
pub failed_before : {E : Type 0} (a b : Option (List ℕ)) (xs ys : List ℕ) (result : Result (Unit {0}) E) → IsErr result → TakesPrefix (between a b) xs → Written (between a b) (xs ++ ys) result
failed_before a b xs ys result is prefix = written_error (between a b) (xs ++ ys) result is (prefix_longer a b xs ys prefix)

-- the texts of one element more were taken
pub one_taken : {X : Type 0} (f : X → List ℕ) (xs : List X) (i : ℕ) (x : X) (a b c : Option (List ℕ)) → i < length xs → x ≡ get_or xs i x → Takes (between a b) (flat_map f (take i xs)) → Takes (between b c) (f x) → Takes (between a c) (flat_map f (take (i + 1) xs))
one_taken f xs i x a b c within is first second =
    let more : flat_map f (take (i + 1) xs) ≡ flat_map f (take i xs) ++ f x
    = ap (flat_map f) (take_more xs i x within) ∙ flat_map-append f (take i xs) (get_or xs i x ∷ [])
    ∙ ap (λ last. flat_map f (take i xs) ++ last) (append-nil (f (get_or xs i x)) ∙ ap f (sym is)) in
    subst (λ text. Takes (between a c) text) (sym more) (Appends-trans a b c (flat_map f (take i xs)) (f x) first second)

-- the text of an element failed, after those before it
pub one_failed : {X E : Type 0} (f : X → List ℕ) (xs : List X) (i : ℕ) (x : X) (a b c : Option (List ℕ)) (result : Result (Unit {0}) E) → Takes (between a b) (flat_map f (take i xs)) → TakesPrefix (between b c) (f x) → IsErr result → x ≡ get_or xs i x → i < length xs → Written (between a c) (flat_map f xs) result
one_failed f xs i x a b c result first second error is within =
    let whole : flat_map f xs ≡ (flat_map f (take i xs) ++ f x) ++ flat_map f (drop (i + 1) xs)
    = ap (flat_map f) (sym (take-append-drop (i + 1) xs)) ∙ flat_map-append f (take (i + 1) xs) (drop (i + 1) xs)
    ∙ ap (λ front. front ++ flat_map f (drop (i + 1) xs))
    (ap (flat_map f) (take_more xs i x within) ∙ flat_map-append f (take i xs) (get_or xs i x ∷ [])
    ∙ ap (λ last. flat_map f (take i xs) ++ last) (append-nil (f (get_or xs i x)) ∙ ap f (sym is))) in
    subst (λ text. Written (between a c) text result) (sym whole)
    (failed_before a c (flat_map f (take i xs) ++ f x) (flat_map f (drop (i + 1) xs)) result error (takes_prefix a b c (flat_map f (take i xs)) (f x) first second))
