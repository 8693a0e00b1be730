-- The shape of a Mitchell movement.
use Rattle.std.specs.Prelude.{ℕ, ◌≤◌}
use Rattle.std.proofs.Common.{arith}
use Rattle.std.proofs.lemmas.Bool.Decides.{nat_tests}
use Rattle.bridge_movement.specs.Shape.{IsShape}
use Rattle.bridge_movement.specs.Mitchell.{mitchell_rounds, mitchell_shape}

-- its shape is within the limits
pub mitchell_within : (T : ℕ) → 2 ≤ T → T ≤ 12 → IsShape (mitchell_shape T)
mitchell_within T least most =
    let rounds : (1 ≤ mitchell_rounds T) × (mitchell_rounds T ≤ 12) = grind (arith, nat_tests) in
    record {
      tables = (least, most);
      rounds = rounds;
      sets = (omega arith, most);
      pairs = (omega arith, omega arith);
      split = (omega arith, omega arith);
    }
