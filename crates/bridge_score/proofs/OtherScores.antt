-- The matchpoints of a board.
use Rattle.std.proofs.Common.{ℕ, ◌≡◌, ◌+◌, ◌*◌, ◌≤◌, List, [], ◌∷◌, length, ℤ, sum_by, pos, ◌+ℤ◌, ◌-ℤ◌, ap, refl, sym, neg_ℤ, Bool, true, false, if◌then◌else◌, arith}
use Rattle.std.specs.Prelude.{int_lt, unsigned_abs}
use Rattle.std.proofs.lemmas.Bool.{false≢true}
use Rattle.bridge_score.specs.ImpScale.{imps_of}
use Rattle.std.proofs.lemmas.Int.{ints}
use Rattle.std.proofs.lemmas.List.Sums.{sum_by-cons}
use Rattle.bridge_score.specs.Comparison.{matchpoints_against, imps_against}

pub matchpoints_against-le : (own other : ℤ) → matchpoints_against own other ≤ 20
matchpoints_against-le own other = grind arith

-- at most 20 for each other score
pub matchpoints-le : (own : ℤ) (others : List ℤ) → sum_by (matchpoints_against own) others ≤ 20 * length others
matchpoints-le own [] = omega arith
matchpoints-le own (other ∷ others) =
    let rest = matchpoints-le own others in
    let here = matchpoints_against-le own other in
    omega (arith, rest, here, sum_by-cons (matchpoints_against own) other others)

pub matchpoints_against-same : (own : ℤ) → matchpoints_against own own ≡ 10
matchpoints_against-same own = grind (arith, ints)

-- two scores share 20
pub matchpoints_against-both : (a b : ℤ) → matchpoints_against a b + matchpoints_against b a ≡ 20
matchpoints_against-both a b = grind (arith, ints)

-- an amount with its sign, of nothing
signed_nothing : (lost : Bool) (imps : ℕ) → imps ≡ 0 → (if lost then neg_ℤ (pos imps) else pos imps) ≡ pos 0
signed_nothing true imps e = ap (λ n. neg_ℤ (pos n)) e
signed_nothing false imps e = ap pos e

-- an amount that one wins and the other loses
signed_both : (lost won : Bool) (imps other : ℕ) → imps ≡ other → (lost ≡ true → won ≡ false) →
    (lost ≡ false → won ≡ false → imps ≡ 0) →
    (if lost then neg_ℤ (pos imps) else pos imps) +ℤ (if won then neg_ℤ (pos other) else pos other) ≡ pos 0
signed_both true true imps other e apart none = absurd (false≢true (sym (apart refl)))
signed_both true false imps other e apart none = omega (arith, ints)
signed_both false true imps other e apart none = omega (arith, ints)
signed_both false false imps other e apart none =
    let nothing : imps ≡ 0 = none refl refl in omega (arith, ints, nothing, e)

same_difference : (a b : ℤ) → unsigned_abs (a -ℤ b) ≡ unsigned_abs (b -ℤ a)
same_difference a b = grind (arith, ints)

not_both_less : (a b : ℤ) → int_lt a b ≡ true → int_lt b a ≡ false
not_both_less a b h = grind (arith, ints)

no_difference : (a b : ℤ) → int_lt a b ≡ false → int_lt b a ≡ false → unsigned_abs (a -ℤ b) ≡ 0
no_difference a b h k = grind (arith, ints)

pub imps_against-same : (own : ℤ) → imps_against own own ≡ pos 0
imps_against-same own =
    let nothing : unsigned_abs (own -ℤ own) ≡ 0 = grind (arith, ints) in
    signed_nothing (int_lt own own) (imps_of (unsigned_abs (own -ℤ own))) (ap imps_of nothing)

-- what one score wins another loses
pub imps_against-both : (a b : ℤ) → imps_against a b +ℤ imps_against b a ≡ pos 0
imps_against-both a b =
    signed_both (int_lt a b) (int_lt b a) (imps_of (unsigned_abs (a -ℤ b))) (imps_of (unsigned_abs (b -ℤ a)))
    (ap imps_of (same_difference a b)) (not_both_less a b) (λ h k. ap imps_of (no_difference a b h k))
