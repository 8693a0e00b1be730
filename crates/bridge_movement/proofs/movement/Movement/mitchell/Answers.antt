use Rattle.std.proofs.Common.{◌≡◌, ◌*◌, length, ap, subst, sym, arith}
use Rattle.bridge_movement.specs.Fair.{IsMovement}
use Rattle.bridge_movement.specs.Mitchell.{mitchell_rounds}
use Rattle.bridge_movement.specs.Shape.{IsShape}
use Rattle.bridge_movement.specs.declared.shape.Shape.{Shape}
use Rattle.bridge_movement.proofs.MitchellShape.{mitchell_within}
use Rattle.bridge_movement.proofs.MitchellFair.{mitchell_is_movement, mitchell_meets_once}
use Rattle.bridge_movement.proofs.movement.Movement.mitchell.Goals as goal

-- the loop has made all the rows
all_made : (c : goal.After-loop-index) → length c.loop-index.rows.items ≡ mitchell_rounds c.args.tables * c.args.tables
all_made c =
    let rounds : c.shape_of-shape.result.rounds * c.args.tables ≡ mitchell_rounds c.args.tables * c.args.tables =
    ap (λ shape. shape.rounds * c.args.tables) c.shape_of-shape.ensures in
    omega arith

pub invariant_of-result : goal.invariant_of-result
invariant_of-result c =
    let P : Shape → Type 0 = λ shape. IsShape shape × IsMovement shape c.loop-index.rows.items in
    subst P (sym c.shape_of-shape.ensures) (
      mitchell_within c.args.tables c.requires.least c.requires.most,
      mitchell_is_movement c.args.tables c.loop-index.rows.items c.requires.least (all_made c) c.loop-index.invariant.rows,
    )

pub returns-clause-fair : goal.returns-clause-fair
returns-clause-fair c = (invariant_of-result c).1

pub returns-clause-meet_once : goal.returns-clause-meet_once
returns-clause-meet_once c =
    mitchell_meets_once c.args.tables c.loop-index.rows.items c.requires.least (all_made c) c.loop-index.invariant.rows
