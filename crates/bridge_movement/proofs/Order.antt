-- Rows that stand in place, and rows that do not.
use Rattle.std.proofs.Common.{ℕ, ◌≡◌, ◌+◌, ◌-◌, ◌*◌, ◌/◌, ◌%◌, ◌<◌, ◌≤◌, List, length, slice_index_or, subst, ap, ◌∙◌, arith}
use Rattle.std.proofs.lemmas.List.{get_or_default}
use Rattle.std.proofs.lemmas.Nat.{div-mul-add, mod-mul-add}
use Rattle.bridge_movement.specs.declared.row.Row.{Row}
use Rattle.bridge_movement.specs.declared.shape.Shape.{Shape}
use Rattle.bridge_movement.specs.Fair.{IsDue, IsInPlace, IsComplete}
use Rattle.bridge_movement.specs.Refused.{IsFirstMisplaced}
use Rattle.bridge_movement.specs.Shape.{row_count}

-- a row that was read and is due stands in place
pub in_place : (shape : Shape) (rows : List Row) (index : ℕ) (d : Row) → index < length rows →
    IsDue shape index (slice_index_or rows index d) → IsInPlace shape rows index
in_place shape rows index d within due =
    let P : Row → Type 0 = λ row. IsDue shape index row in
    (within, λ e. subst P (get_or_default rows index d e within) due)

-- rows in place up to one that is not due
pub misplaced_at : (shape : Shape) (rows : List Row) (index : ℕ) (d : Row) → index < length rows →
    ((k : ℕ) → k < index → IsInPlace shape rows k) →
    (IsDue shape index (slice_index_or rows index d) → ⊥) → IsFirstMisplaced shape rows index
misplaced_at shape rows index d within before not_due =
    let not_here : IsInPlace shape rows index → ⊥ = λ p. not_due (p.1 d) in
    record { incomplete = λ complete. not_here (complete.order index within); here = not_here; before = before }

-- rows in place, of which some are lacking
pub lacking : (shape : Shape) (rows : List Row) → length rows < row_count shape →
    ((k : ℕ) → k < length rows → IsInPlace shape rows k) → IsFirstMisplaced shape rows (length rows)
lacking shape rows short before = record {
  incomplete = λ complete. let count : length rows ≡ row_count shape = complete.count in omega arith;
  here = λ p. let within : length rows < length rows = p.0 in omega arith;
  before = before;
}

-- the row of a round and table, both from 1, is of that round and table
pub row_of_round : (shape : Shape) (rows : List Row) (round table : ℕ) (d : Row) → IsComplete shape rows → 1 ≤ round →
    1 ≤ table → table ≤ shape.tables → (round - 1) * shape.tables + (table - 1) < length rows →
    ((slice_index_or rows ((round - 1) * shape.tables + (table - 1)) d).round ≡ round)
    × ((slice_index_or rows ((round - 1) * shape.tables + (table - 1)) d).table ≡ table)
row_of_round shape rows round table d complete round_least table_least table_most within =
    let due = (complete.order ((round - 1) * shape.tables + (table - 1)) within).1 d in
    let column : table - 1 < shape.tables = omega arith in
    let quotient : ((round - 1) * shape.tables + (table - 1)) / shape.tables ≡ round - 1 =
    div-mul-add (round - 1) shape.tables (table - 1) column in
    let remainder : ((round - 1) * shape.tables + (table - 1)) % shape.tables ≡ table - 1 =
    mod-mul-add (round - 1) shape.tables (table - 1) column in
    let back_round : (round - 1) + 1 ≡ round = omega arith in
    let back_table : (table - 1) + 1 ≡ table = omega arith in
    (due.1 ∙ ap (λ n. n + 1) quotient ∙ back_round, due.2 ∙ ap (λ n. n + 1) remainder ∙ back_table)
