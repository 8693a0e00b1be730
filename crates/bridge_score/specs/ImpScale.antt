-- The scale of International Match Points (Law 78B).
use Rattle.std.specs.Prelude.{ℕ, List, [], ◌∷◌, nat_le, count_by}

-- the differences at which 1 to 24 IMPs begin, in points
abbrev pub imp_beginnings : List ℕ
imp_beginnings =
    20 ∷ 50 ∷ 90 ∷ 130 ∷ 170 ∷ 220 ∷ 270 ∷ 320 ∷ 370 ∷ 430 ∷ 500 ∷ 600 ∷ 750 ∷ 900 ∷ 1100 ∷ 1300 ∷ 1500 ∷ 1750 ∷ 2000
    ∷ 2250 ∷ 2500 ∷ 3000 ∷ 3500 ∷ 4000 ∷ []

-- how many of them the difference has reached
abbrev pub imps_of : ℕ → ℕ
imps_of difference = count_by (λ beginning. nat_le beginning difference) imp_beginnings
