-- Equal scores gain the same against the others.
use Rattle.std.proofs.Common.{◌≡◌, ◌<◌, ℕ, zero, suc, List, [], ◌∷◌, length, fold, get_or, remove, sum_by, ℤ, pos, ◌+ℤ◌, ap, ◌∙◌, arith}
use Rattle.std.proofs.lemmas.Int.{ints}
use Rattle.std.proofs.lemmas.List.Sums.{sum_by-remove}
use Rattle.bridge_cards.specs.declared.scoring.Scoring.{Scoring}
use Rattle.bridge_cards.specs.declared.scoring.Scoring.TheVariants.{MatchPoints, Imps}
use Rattle.bridge_score.specs.Comparison.{score_at, int_sum_by, matchpoints_against, imps_against}
use Rattle.bridge_ranking.specs.Ranking.{gain_at}

-- a sum that begins at another number
sum_from : (f : ℤ → ℤ) (start : ℤ) (xs : List ℤ) → fold (λ total x. total +ℤ f x) start xs ≡ start +ℤ int_sum_by f xs
sum_from f start [] = omega (arith, ints)
sum_from f start (x ∷ xs) =
    let here = sum_from f (start +ℤ f x) xs in
    let there = sum_from f (pos 0 +ℤ f x) xs in omega (arith, ints, here, there)

sum_cons : (f : ℤ → ℤ) (x : ℤ) (xs : List ℤ) → int_sum_by f (x ∷ xs) ≡ f x +ℤ int_sum_by f xs
sum_cons f x xs = omega (arith, ints, sum_from f (pos 0 +ℤ f x) xs)

-- the others and the one
sum_remove : (f : ℤ → ℤ) (xs : List ℤ) (i : ℕ) → i < length xs → int_sum_by f (remove xs i) +ℤ f (get_or xs i (pos 0)) ≡ int_sum_by f xs
sum_remove f [] i within = absurd (omega arith)
sum_remove f (x ∷ xs) zero within = omega (arith, ints, sum_cons f x xs)
sum_remove f (x ∷ xs) (suc i) within =
    let rest = sum_remove f xs i (omega arith) in
    omega (arith, ints, rest, sum_cons f x xs, sum_cons f x (remove xs i))

pub equal_gains : (scoring : Scoring) (scores : List ℤ) (i j : ℕ) → i < length scores → j < length scores → score_at scores i ≡ score_at scores j → gain_at scoring scores i ≡ gain_at scoring scores j
equal_gains MatchPoints scores i j first second same =
    let own : ℤ = score_at scores i in
    let f : ℤ → ℕ = matchpoints_against own in
    let a = sum_by-remove f scores i (pos 0) first in
    let b = sum_by-remove f scores j (pos 0) second in
    let alike : f (score_at scores i) ≡ f (score_at scores j) = ap f same in
    let gained : sum_by f (remove scores i) ≡ sum_by f (remove scores j) = omega (arith, a, b, alike) in
    ap pos (gained ∙ ap (λ (z : ℤ). sum_by (matchpoints_against z) (remove scores j)) same)
equal_gains Imps scores i j first second same =
    let own : ℤ = score_at scores i in
    let f : ℤ → ℤ = imps_against own in
    let a = sum_remove f scores i first in
    let b = sum_remove f scores j second in
    let alike : f (score_at scores i) ≡ f (score_at scores j) = ap f same in
    let gained : int_sum_by f (remove scores i) ≡ int_sum_by f (remove scores j) = omega (arith, ints, a, b, alike) in
    gained ∙ ap (λ (z : ℤ). int_sum_by (imps_against z) (remove scores j)) same
