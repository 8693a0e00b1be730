use Rattle.std.proofs.Common.{ℕ, ◌≡◌, List, sym, subst, ap, ◌∙◌, arith}
use Rattle.std.proofs.lemmas.Grind.{common_steps}
use Rattle.bridge_movement.specs.declared.row.Row.{Row}
use Rattle.bridge_movement.specs.Mitchell.{mitchell_shape, FollowsMitchell}
use Rattle.bridge_movement.specs.Shape.{IsBetween}
use Rattle.evening_draft.proofs.form.form_of.Goals as goal

-- the shape is a Mitchell's
same_shape : (c : goal.Then-are_same) → c.args.movement.now.shape ≡ mitchell_shape c.args.movement.now.shape.tables
same_shape c = grind (arith, common_steps)

pub returns-then-are_same : goal.returns-then-are_same
returns-then-are_same c =
    let now = c.args.movement.now in
    let shape = c.shape-shape.ensures in
    let same : now.rows ≡ c.mitchell-mitchell.result.rows =
    sym c.rows.ensures.rows ∙ c.are_same.ensures c.if-are_same.true ∙ c.rows-then-eq.ensures.rows in
    let tables : c.shape-shape.result.tables ≡ now.shape.tables = ap (λ s. s.tables) shape.shape in
    let P : ℕ → Type 0 = λ t. FollowsMitchell t c.mitchell-mitchell.result.rows in
    let Q : List Row → Type 0 = λ rows. FollowsMitchell now.shape.tables rows in
    let R : ℕ → Type 0 = λ t. IsBetween 2 12 t in
    record {
      tables_within = subst R tables shape.limits.tables;
      shape = same_shape c;
      count = shape.fair.complete.count;
      rows = subst Q (sym same) (subst P tables c.mitchell-mitchell.ensures.rows);
    }
