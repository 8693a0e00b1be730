use Rattle.std.proofs.Common.{◌≡◌, ◌+◌, ◌-◌, ◌*◌, ◌<◌, ◌≤◌, length, slice_index_or, ap, arith}
use Rattle.std.proofs.lemmas.Nat.{mul-add-lt}
use Rattle.bridge_movement.specs.declared.row.Row.{Row}
use Rattle.bridge_movement.specs.Shape.{row_count}
use Rattle.bridge_movement.proofs.Order.{row_of_round}
use Rattle.bridge_movement.proofs.movement.Movement.row.Goals as goal

-- the row that is read is of the round and the table
read_at : (c : goal.After-result-1) (d : Row) →
    let row = slice_index_or c.deref.result.now c.index_of_row.result d in
    (row.round ≡ c.args.round) × (row.table ≡ c.args.table)
read_at c d =
    let shape = c.self.inside.shape in
    let rows = c.self.inside.rows.items in
    let complete = c.self.invariant.1.complete in
    let count : length rows ≡ row_count shape = complete.count in
    let tables : shape.tables ≡ c.args.self.now.shape.tables = ap (λ m. m.shape.tables) c.self.view_is in
    let rounds : shape.rounds ≡ c.args.self.now.shape.rounds = ap (λ m. m.shape.rounds) c.self.view_is in
    let in_table : c.args.table ≤ shape.tables = omega (arith, c.requires.table.1) in
    let column : c.args.table - 1 < shape.tables = omega (arith, c.requires.table.0) in
    let line : c.args.round - 1 < shape.rounds = omega (arith, c.requires.round.0, c.requires.round.1) in
    let within : (c.args.round - 1) * shape.tables + (c.args.table - 1) < length rows =
    omega (arith, mul-add-lt (c.args.round - 1) shape.tables (c.args.table - 1) shape.rounds line column) in
    rw (c.deref.ensures.0, c.index_of_row.ensures)
    (row_of_round shape rows c.args.round c.args.table d complete c.requires.round.0 c.requires.table.0 in_table within)

pub returns-clause-of : goal.returns-clause-of
returns-clause-of c = read_at c _
