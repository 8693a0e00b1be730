-- Lists that are written element by element, and the indexes of parts.
use Rattle.std.proofs.Common.{◌≡◌, ◌+◌, ◌*◌, ◌/◌, ◌%◌, ◌<◌, ℕ, List, [], ◌∷◌, ◌++◌, length, take, get_or, sym, ap, ◌∙◌, arith, add-one, length-append}
use Rattle.std.specs.Prelude.{flat_map, slice_set}
use Rattle.std.proofs.Math.Seq.{take-suc, take-suc-set}
use Rattle.std.proofs.Math.Nat.{div-lt_iff_lt-mul, mod-lt}
use Rattle.std.proofs.lemmas.Nat.{div-add-mod'}
use Rattle.std.proofs.lemmas.List.{length-take-le}
use Rattle.std.proofs.lemmas.List.Concat.{get_or-flat_map}

module _ {X : Type 0} where
  -- the elements before an index, and the one there
  pub next_taken : (xs : List X) (i : ℕ) (x : X) → i < length xs → x ≡ get_or xs i x → take (i + 1) xs ≡ take i xs ++ x ∷ []
  next_taken xs i x within is = ap (λ n. take n xs) (add-one i) ∙ take-suc xs i x within ∙ ap (λ y. take i xs ++ y ∷ []) (sym is)

  -- the elements up to the one that was set
  pub set_taken : (xs : List X) (i : ℕ) (x : X) → i < length xs → take (i + 1) (slice_set xs i x) ≡ take i xs ++ x ∷ []
  set_taken xs i x within = ap (λ n. take n (slice_set xs i x)) (add-one i) ∙ take-suc-set xs i x within

  -- lists of one length, one after the other
  module _ {Y : Type 0} (f : X → List Y) (n : ℕ) (fixed : (x : X) → length (f x) ≡ n) where
    pub length-flat_fixed : (xs : List X) → length (flat_map f xs) ≡ length xs * n
    length-flat_fixed [] = omega arith
    length-flat_fixed (x ∷ xs) =
        let rest = length-flat_fixed xs in
        omega (arith, length-append (f x) (flat_map f xs), fixed x, rest)

    pub flat_fixed_index : (xs : List X) (row_index : ℕ) (e : X) (d : Y) → 0 < n → row_index < length xs * n → get_or (flat_map f xs) row_index d ≡ get_or (f (get_or xs (row_index / n) e)) (row_index % n) d
    flat_fixed_index xs row_index e d some within =
        let q : ℕ = row_index / n in
        let r : ℕ = row_index % n in
        let inside : q < length xs = (div-lt_iff_lt-mul some).1 within in
        let before : length (flat_map f (take q xs)) ≡ q * n
        = length-flat_fixed (take q xs) ∙ ap (λ k. k * n) (length-take-le q xs (omega (arith, inside))) in
        let here : row_index ≡ length (flat_map f (take q xs)) + r = sym (div-add-mod' row_index n) ∙ ap (λ k. k + r) (sym before) in
        let rest : r < n = mod-lt row_index some in
        ap (λ k. get_or (flat_map f xs) k d) here ∙ get_or-flat_map f xs q r e d inside (omega (arith, rest, fixed (get_or xs q e)))
