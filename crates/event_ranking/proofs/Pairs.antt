-- What holds of any two elements of a list.
use Rattle.std.proofs.Common.{◌≡◌, ◌+◌, ◌<◌, ◌≤◌, ℕ, List, length, take, get_or, inl, inr, sym, subst, arith}
use Rattle.std.specs.Prelude.{AllPairs}
use Rattle.std.proofs.lemmas.Bool.{cases_lt}
use Rattle.std.proofs.lemmas.List.{get_or-take, length-take-le, take_all}

-- of one element more
pub AllPairs-more : {X : Type 0} (R : X → X → Type 0) (xs : List X) (n : ℕ) → n < length xs → AllPairs R (take n xs) → ((i : ℕ) (d : X) → i < n → R (get_or xs i d) (get_or xs n d)) → AllPairs R (take (n + 1) xs)
AllPairs-more R xs n within so_far new = λ i j d less inside.
    let count = length-take-le (n + 1) xs (omega arith) in
    let before : j < n + 1 = omega (arith, count, inside) in
    let first = get_or-take (n + 1) xs i d (omega arith) in
    let second = get_or-take (n + 1) xs j d before in
    let both : R (get_or xs i d) (get_or xs j d) = elim (cases_lt j n) [
      | inl earlier ↦
          let known = so_far i j d less (omega (arith, earlier, length-take-le n xs (omega arith))) in
          let at_first : R (get_or xs i d) (get_or (take n xs) j d) = subst (λ x. R x (get_or (take n xs) j d)) (get_or-take n xs i d (omega (arith, less, earlier))) known in
          subst (λ y. R (get_or xs i d) y) (get_or-take n xs j d earlier) at_first
      | inr last ↦
          let same : n ≡ j = omega (arith, last, before) in
          subst (λ k. R (get_or xs i d) (get_or xs k d)) same (new i d (omega (arith, less, same)))
    ] in
    subst (λ x. R x (get_or (take (n + 1) xs) j d)) (sym first) (subst (λ y. R (get_or xs i d) y) (sym second) both)

-- of all elements
pub AllPairs-whole : {X : Type 0} (R : X → X → Type 0) (xs : List X) (n : ℕ) → length xs ≤ n → AllPairs R (take n xs) → AllPairs R xs
AllPairs-whole R xs n all pairs = subst (AllPairs R) (take_all n xs all) pairs
