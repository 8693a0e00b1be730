use Rattle.std.proofs.Common.{◌≡◌, List, map, take, length, subst, sym, ap, ◌∙◌, arith}
use Rattle.std.proofs.lemmas.List.{take_all}
use Rattle.bridge_movement.specs.declared.row.Row.{Row}
use Rattle.bridge_movement.specs.declared.shape.Shape.{Shape}
use Rattle.bridge_movement.specs.Fair.{IsMovement}
use Rattle.bridge_movement.specs.HalfTable.{row_without, shape_without_last, SitsOutOnce}
use Rattle.bridge_movement.specs.MovementValue.{MovementValue}
use Rattle.bridge_movement.specs.Shape.{IsShape}
use Rattle.bridge_movement.proofs.WithoutLast.{without_is_movement, without_within, out_once}
use Rattle.bridge_movement.proofs.movement.Movement.without_last.Goals as goal

-- the loop has made all the rows
all_rows : (c : goal.After-loop-row) →
    c.loop-row.rows.items ≡ map (row_without c.args.self.now.shape.pairs) c.args.self.now.rows
all_rows c =
    let count : length c.deref-row-items.result.now ≡ length c.args.self.now.rows =
    ap length c.deref-row-items.ensures.0 ∙ ap (λ m. length m.rows) c.self.view_is in
    let whole : take c.loop-row.row-index c.args.self.now.rows ≡ c.args.self.now.rows =
    take_all c.loop-row.row-index c.args.self.now.rows (omega (arith, count, c.loop-row-test.false)) in
    c.loop-row.invariant ∙ ap (map (row_without c.args.self.now.shape.pairs)) whole

-- the shape is the one with a pair less
new_shape : (c : goal.After-loop-row) → c.shape_without_last-shape.result ≡ shape_without_last c.args.self.now.shape
new_shape c = c.shape_without_last-shape.ensures ∙ ap (λ m. shape_without_last m.shape) c.self.view_is

-- what the movement keeps
kept : (c : goal.After-loop-row) →
    IsShape c.args.self.now.shape × IsMovement c.args.self.now.shape c.args.self.now.rows
kept c =
    let P : MovementValue → Type 0 = λ m. IsShape m.shape × IsMovement m.shape m.rows in
    subst P c.self.view_is c.self.invariant

pub invariant_of-result : goal.invariant_of-result
invariant_of-result c =
    let now = c.args.self.now in
    let P : List Row → Type 0 = λ rows. IsShape c.shape_without_last-shape.result × IsMovement c.shape_without_last-shape.result rows in
    let Q : Shape → Type 0 = λ shape. IsShape shape × IsMovement shape (map (row_without now.shape.pairs) now.rows) in
    subst P (sym (all_rows c)) (subst Q (sym (new_shape c)) (
      without_within now.shape c.requires (kept c).0,
      without_is_movement now.shape now.rows (kept c).1,
    ))

pub returns-clause-fair : goal.returns-clause-fair
returns-clause-fair c = (invariant_of-result c).1

pub returns-clause-sits_out_once : goal.returns-clause-sits_out_once
returns-clause-sits_out_once c live once =
    let now = c.args.self.now in
    subst SitsOutOnce (sym (all_rows c)) (out_once now.shape.pairs now.rows live once)
