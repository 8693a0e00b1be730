-- The last of a sector's values.
use Rattle.std.proofs.Common.{◌≡◌, ℕ, zero, suc, ◌-◌, List, [], ◌∷◌, ◌++◌, length, Some, refl, arith}
use Rattle.std.specs.Prelude.{slice_get}
use Rattle.sector_disk.specs.Held.{last_of}

-- the value at the last index, number n, is the last one
last_is : (v x : List ℕ) (ws : List (List ℕ)) (n : ℕ) → n ≡ length ws - 1 → Some x ≡ slice_get ws n → last_of v ws ≡ x
last_is v x [] n at is = cc
last_is v x (w ∷ []) zero at is = cc
last_is v x (w ∷ []) (suc n) at is = cc
last_is v x (w ∷ u ∷ ws) zero at is = absurd (omega arith)
last_is v x (w ∷ u ∷ ws) (suc n) at is = last_is w x (u ∷ ws) n (omega arith) is

-- the same, with the number of that index written out
pub last_value : (v x : List ℕ) (ws : List (List ℕ)) → Some x ≡ slice_get ws (length ws - 1) → last_of v ws ≡ x
last_value v x ws is = last_is v x ws (length ws - 1) refl is

-- a value that is pushed is the last
pub last_of-push : (v x : List ℕ) (ws : List (List ℕ)) → last_of v (ws ++ x ∷ []) ≡ x
last_of-push v x [] = refl
last_of-push v x (w ∷ ws) = last_of-push w x ws
