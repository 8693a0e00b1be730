-- Which numbers more leave a list of distinct numbers distinct, and that a front of one is distinct.
use Rattle.std.proofs.Common.{◌≡◌, ℕ, true, false, not, eqb, ◌||◌, ◌==◌, List, [], ◌∷◌, ◌++◌, refl, sym, ◌∙◌}
use Rattle.std.specs.List.{list_any}
use Rattle.std.proofs.lemmas.Bool.{and_parts, and_from, or_parts, or_from, not-true, not_from_false}
use Rattle.std.proofs.lemmas.List.Folds.{list_any-append}
use Rattle.bridge_config.specs.Limits.{are_distinct, stands_in}

-- two numbers, neither of which stands among the earlier ones
pub record AreNew (earlier : List ℕ) (first second : ℕ) : Type 0 where
  pub first_new : stands_in earlier first ≡ false
  pub second_new : stands_in earlier second ≡ false
  pub apart : eqb first second ≡ false

-- two new numbers after distinct ones leave them distinct
pub are_distinct_more : (earlier : List ℕ) (first second : ℕ) → AreNew earlier first second → are_distinct earlier ≡ true → are_distinct (earlier ++ (first ∷ second ∷ [])) ≡ true
are_distinct_more [] first second new distinct =
    and_from (not (list_any (λ other. first == other) (second ∷ []))) (are_distinct (second ∷ [])) (not_from_false _ (or_from (eqb first second) false new.apart refl)) refl
are_distinct_more (x ∷ xs) first second new distinct =
    let p = and_parts (not (list_any (λ other. x == other) xs)) (are_distinct xs) distinct in
    let one = or_parts (eqb x first) (stands_in xs first) new.first_new in
    let two = or_parts (eqb x second) (stands_in xs second) new.second_new in
    let none : list_any (λ other. x == other) (xs ++ (first ∷ second ∷ [])) ≡ false =
    list_any-append (λ other. x == other) xs (first ∷ second ∷ []) ∙ or_from _ _ (not-true _ p.0) (or_from _ _ one.0 (or_from _ _ two.0 refl)) in
    and_from _ _ (not_from_false _ none) (are_distinct_more xs first second (record { first_new = one.1; second_new = two.1; apart = new.apart }) p.1)

-- two numbers at the end of distinct ones are new
pub are_new : (earlier : List ℕ) (first second : ℕ) → are_distinct (earlier ++ (first ∷ second ∷ [])) ≡ true → AreNew earlier first second
are_new [] first second distinct =
    let p = and_parts (not (list_any (λ other. first == other) (second ∷ []))) (are_distinct (second ∷ [])) distinct in
    record { first_new = refl; second_new = refl; apart = (or_parts (eqb first second) false (not-true _ p.0)).0 }
are_new (x ∷ xs) first second distinct =
    let p = and_parts (not (list_any (λ other. x == other) (xs ++ (first ∷ second ∷ [])))) (are_distinct (xs ++ (first ∷ second ∷ []))) distinct in
    let rest = are_new xs first second p.1 in
    let parts = or_parts (list_any (λ other. x == other) xs) (list_any (λ other. x == other) (first ∷ second ∷ [])) (sym (list_any-append (λ other. x == other) xs (first ∷ second ∷ [])) ∙ not-true _ p.0) in
    let one = or_parts (eqb x first) (eqb x second || false) parts.1 in
    let two = or_parts (eqb x second) false one.1 in
    record { first_new = or_from (eqb x first) (stands_in xs first) one.0 rest.first_new; second_new = or_from (eqb x second) (stands_in xs second) two.0 rest.second_new; apart = rest.apart }

-- a front of distinct numbers is distinct
pub are_distinct-front : (xs ys : List ℕ) → are_distinct (xs ++ ys) ≡ true → are_distinct xs ≡ true
are_distinct-front [] ys distinct = refl
are_distinct-front (x ∷ xs) ys distinct =
    let p = and_parts (not (list_any (λ other. x == other) (xs ++ ys))) (are_distinct (xs ++ ys)) distinct in
    let none : list_any (λ other. x == other) (xs ++ ys) ≡ false = not-true _ p.0 in
    let parts = or_parts (list_any (λ other. x == other) xs) (list_any (λ other. x == other) ys) (sym (list_any-append (λ other. x == other) xs ys) ∙ none) in
    and_from _ _ (not_from_false _ parts.0) (are_distinct-front xs ys p.1)
