-- The names of an evening as they are shown.
use Rattle.std.proofs.Common.{◌≡◌, ◌∙◌, ℕ, zero, suc, ◌-◌, true, false, List, [], ◌∷◌, ◌++◌, map, Option, Some, None, refl, sym, ap}
use Rattle.std.specs.Prelude.{slice_get, slice_index_or, codes}
use Rattle.std.specs.Borrow.{Bor}
use Rattle.std.specs.Option.{option_map_or}
use Rattle.std.specs.Fmt.{decimal}
use Rattle.bridge_config.specs.ConfigValue.{Pair}
use Rattle.evening_draft.specs.ShownNames.{shown_name}
use Rattle.evening_draft.specs.declared.wishes.PairNames.{PairNames}
use Rattle.evening_plan.specs.Evening.{shown_names, names_in, people_in}
use Rattle.evening_plan.specs.PairText.{pair_words}

-- a name that stands in a list of lists
at_index : {X : Type 0} (f : X → List (List ℕ)) (xs : List X) (i k : ℕ)
    → slice_index_or (slice_index_or (map f xs) i []) k [] ≡ option_map_or (λ x. slice_index_or (f x) k []) (slice_get xs i) []
at_index f [] i k = refl
at_index f (x ∷ xs) zero k = refl
at_index f (x ∷ xs) (suc i) k = at_index f xs i k

-- the first and the second name of a pair of a list
first_person : (names : List PairNames) (i : ℕ)
    → slice_index_or (slice_index_or (map people_in names) i []) 0 [] ≡ option_map_or (λ (found : PairNames). found.first.bytes) (slice_get names i) []
first_person [] i = refl
first_person (x ∷ xs) zero = refl
first_person (x ∷ xs) (suc i) = first_person xs i

second_person : (names : List PairNames) (i : ℕ)
    → slice_index_or (slice_index_or (map people_in names) i []) 1 [] ≡ option_map_or (λ (found : PairNames). found.second.bytes) (slice_get names i) []
second_person [] i = refl
second_person (x ∷ xs) zero = refl
second_person (x ∷ xs) (suc i) = second_person xs i

-- the name of a player is that of the evening
pub first_shown : (names : Option (Bor (List PairNames))) (pairs : List Pair) (pair : ℕ)
    → slice_index_or (slice_index_or (shown_names names pairs) (pair - 1) []) 0 [] ≡ shown_name names pairs pair true
first_shown None pairs pair = at_index names_in pairs (pair - 1) 0
first_shown (Some names) pairs pair = first_person names.now (pair - 1)

pub second_shown : (names : Option (Bor (List PairNames))) (pairs : List Pair) (pair : ℕ)
    → slice_index_or (slice_index_or (shown_names names pairs) (pair - 1) []) 1 [] ≡ shown_name names pairs pair false
second_shown None pairs pair = at_index names_in pairs (pair - 1) 1
second_shown (Some names) pairs pair = second_person names.now (pair - 1)

-- the heading of a pair by the names of its players
pub words_shown : (names : Option (Bor (List PairNames))) (pairs : List Pair) (pair : ℕ)
    → pair_words pair (shown_name names pairs pair true ∷ shown_name names pairs pair false ∷ [])
    ≡ pair_words pair (slice_index_or (shown_names names pairs) (pair - 1) [])
unfolding pair_words
words_shown names pairs pair =
    ap (λ (both : List ℕ). (((codes "\nPair " ++ decimal pair) ++ codes ": ") ++ both) ++ codes "\n")
    (ap (λ (name : List ℕ). (name ++ codes " and ") ++ shown_name names pairs pair false) (sym (first_shown names pairs pair))
    ∙ ap (λ (name : List ℕ). (slice_index_or (slice_index_or (shown_names names pairs) (pair - 1) []) 0 [] ++ codes " and ") ++ name)
    (sym (second_shown names pairs pair)))
