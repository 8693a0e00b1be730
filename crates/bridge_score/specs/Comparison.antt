-- How a score compares with the other scores of its board (Law 78). Places in a list count from 0.
use Rattle.std.specs.Prelude.{ℕ, if◌then◌else◌, List, length, fold, sum_by, remove, slice_index_or, ℤ, pos, ◌+ℤ◌, ◌-ℤ◌, neg_ℤ, int_lt, unsigned_abs}
use Rattle.std.specs.List.{range_with_len}
use Rattle.bridge_score.specs.ImpScale.{imps_of}

-- the score at that place in the list
abbrev pub score_at : List ℤ → ℕ → ℤ
score_at scores index = slice_index_or scores index (pos 0)

-- the sum of signed numbers, one for each element
abbrev pub int_sum_by : {X : Type 0} → (X → ℤ) → List X → ℤ
int_sum_by f xs = fold (λ total x. total +ℤ f x) (pos 0) xs

-- the sum of signed numbers
abbrev pub int_sum : List ℤ → ℤ
int_sum xs = int_sum_by (λ x. x) xs

-- the indexes of a list, from 0
abbrev pub indexes : List ℤ → List ℕ
indexes scores = range_with_len 0 (length scores)

-- in tenths of a matchpoint unit: two units for an inferior score, one for an equal one (Law 78A)
abbrev pub matchpoints_against : ℤ → ℤ → ℕ
matchpoints_against own other = if int_lt other own then 20 else (if int_lt own other then 0 else 10)

-- the matchpoints of the score at that place: those against each of the other scores
abbrev pub matchpoints_of : List ℤ → ℕ → ℕ
matchpoints_of scores index = sum_by (matchpoints_against (score_at scores index)) (remove scores index)

-- the IMPs of the difference, lost where the other score is greater (Law 78B)
abbrev pub imps_against : ℤ → ℤ → ℤ
imps_against own other =
    let imps = imps_of (unsigned_abs (own -ℤ other)) in if int_lt own other then neg_ℤ (pos imps) else pos imps

-- the cross-IMPs of the score at that place: those against each of the other scores
abbrev pub cross_imps_of : List ℤ → ℕ → ℤ
cross_imps_of scores index = int_sum_by (imps_against (score_at scores index)) (remove scores index)
