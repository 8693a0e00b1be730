-- Two bounds of a worth.
use Rattle.std.specs.Prelude.{ℕ, ◌≤◌}
use Rattle.bridge_endings.specs.declared.bounds.Bounds.{Bounds}

-- the bounds are true of the worth
pub record IsBounded (worth : ℕ) (bounds : Bounds) : Type 0 where
  pub least : bounds.least ≤ worth
  pub most : worth ≤ bounds.most
