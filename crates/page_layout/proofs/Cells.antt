-- The cells of a row, of which some have been added.
use Rattle.std.proofs.Common.{ℕ, List, map}
use Rattle.std.specs.Borrow.{Bor}

-- what references give
abbrev pub texts_of : List (Bor (List ℕ)) → List (List ℕ)
texts_of cells = map (λ (cell : Bor (List ℕ)). cell.now) cells
