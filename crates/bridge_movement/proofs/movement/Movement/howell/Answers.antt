use Rattle.std.proofs.Common.{◌≡◌, ◌*◌, length, ap, subst, sym, arith}
use Rattle.bridge_movement.specs.Fair.{IsMovement}
use Rattle.bridge_movement.specs.Howell.{howell_row_at, IsHowell}
use Rattle.bridge_movement.specs.Shape.{IsShape}
use Rattle.bridge_movement.specs.declared.shape.Shape.{Shape}
use Rattle.bridge_movement.proofs.HowellFair.{one_more, howell_within, howell_is_movement, howell_is_howell}
use Rattle.bridge_movement.proofs.HowellRows.{rows_of}
use Rattle.bridge_movement.proofs.movement.Movement.howell.Goals as goal

pub loop-index-preserved : goal.loop-index-preserved
loop-index-preserved c = record {
  count = omega (arith, c.push.ensures.len, c.loop-index.invariant.count);
  rows = one_more (howell_row_at c.args.tables) _ _ _ c.loop-index.index c.push.ensures.items
      c.loop-index.invariant.count c.loop-index.invariant.rows c.row_of.ensures;
}

-- the loop has made all the rows
all_made : (c : goal.After-loop-index) → length c.loop-index.rows.items ≡ rows_of c.args.tables
all_made c =
    let rounds : c.shape_of-shape.result.rounds * c.args.tables ≡ rows_of c.args.tables =
    ap (λ shape. shape.rounds * c.args.tables) c.shape_of-shape.ensures in
    omega arith

pub invariant_of-result : goal.invariant_of-result
invariant_of-result c =
    let P : Shape → Type 0 = λ shape. IsShape shape × IsMovement shape c.loop-index.rows.items in
    subst P (sym c.shape_of-shape.ensures) (
      howell_within c.args.tables c.requires.least c.requires.most,
      howell_is_movement c.args.tables c.loop-index.rows.items c.requires.least c.requires.most (all_made c)
          c.loop-index.invariant.rows,
    )

pub returns-clause-fair : goal.returns-clause-fair
returns-clause-fair c = (invariant_of-result c).1

pub returns-clause-howell : goal.returns-clause-howell
returns-clause-howell c =
    let P : Shape → Type 0 = λ shape. IsHowell shape c.loop-index.rows.items in
    subst P (sym c.shape_of-shape.ensures)
    (howell_is_howell c.args.tables c.loop-index.rows.items c.requires.least c.requires.most (all_made c)
    c.loop-index.invariant.rows)
