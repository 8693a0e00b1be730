-- A movement in which the last pair is lacking.
use Rattle.std.specs.Prelude.{ℕ, ◌≢◌, ◌-◌, ◌==◌, min, if◌then◌else◌, List, AllPairs}
use Rattle.bridge_movement.specs.declared.row.Row.{Row}
use Rattle.bridge_movement.specs.declared.shape.Shape.{Shape}
use Rattle.bridge_movement.specs.Row.{IsLive, SitsIn}

-- the pair, or nobody where it is the one that is lacking
abbrev pub unless_lacking : ℕ → ℕ → ℕ
unless_lacking lacking pair = if pair == lacking then 0 else pair

-- the row with nobody in the place of the pair that is lacking
abbrev pub row_without : ℕ → Row → Row
row_without lacking row =
    record row { ns = unless_lacking lacking row.ns; ew = unless_lacking lacking row.ew }

-- the shape with one pair less
abbrev pub shape_without_last : Shape → Shape
shape_without_last shape =
    record shape { pairs = shape.pairs - 1; split = min shape.split (shape.pairs - 1) }

-- some pair stands in both rows, and meets nobody in either
abbrev pub SitOutAgain : Row → Row → Type 0
SitOutAgain a b = (¬ IsLive a) × (¬ IsLive b) × ((pair : ℕ) × (pair ≢ 0) × SitsIn a pair × SitsIn b pair)

-- no pair sits out twice
abbrev pub SitsOutOnce : List Row → Type 0
SitsOutOnce rows = AllPairs (λ a b. ¬ SitOutAgain a b) rows
