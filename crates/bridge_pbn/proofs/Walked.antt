-- What is made of the elements that a loop has passed, of the next one, and of those after it.
use Rattle.std.proofs.Common.{◌≡◌, ℕ, ◌+◌, ◌<◌, List, [], ◌∷◌, ◌++◌, length, get_or, take, drop, Option, Some, None, refl, sym, ap, ◌∙◌}
use Rattle.std.specs.List.{cons_option}
use Rattle.std.specs.Option.{option_to_list}
use Rattle.std.proofs.lemmas.List.{take_more, take-append-drop}

-- of one element more
pub made_more : {X Y : Type 0} (f : List X → List Y) → ((xs ys : List X) → f (xs ++ ys) ≡ f xs ++ f ys) → (xs : List X) (i : ℕ) (d : X) → i < length xs → f (take (i + 1) xs) ≡ f (take i xs) ++ f (get_or xs i d ∷ [])
made_more f joins xs i d within = ap f (take_more xs i d within) ∙ joins (take i xs) (get_or xs i d ∷ [])

-- of all
pub made_whole : {X Y : Type 0} (f : List X → List Y) → ((xs ys : List X) → f (xs ++ ys) ≡ f xs ++ f ys) → (xs : List X) (i : ℕ) (d : X) → i < length xs → f xs ≡ (f (take i xs) ++ f (get_or xs i d ∷ [])) ++ f (drop (i + 1) xs)
made_whole f joins xs i d within =
    ap f (sym (take-append-drop (i + 1) xs)) ∙ joins (take (i + 1) xs) (drop (i + 1) xs)
    ∙ ap (λ first. first ++ f (drop (i + 1) xs)) (made_more f joins xs i d within)

-- of one alone, where it may be nothing
pub made_of_one : {Y : Type 0} (given : Option Y) → cons_option given [] ≡ option_to_list given
made_of_one None = refl
made_of_one (Some y) = refl
