-- The Mitchell movement. Rounds, tables and indexes count from 0 here.
use Rattle.std.specs.Prelude.{ℕ, ◌≡◌, ◌<◌, ◌+◌, ◌*◌, ◌-◌, ◌/◌, ◌%◌, ◌==◌, nat_le, ◌&&◌, if◌then◌else◌, List, length, slice_index_or}
use Rattle.bridge_movement.specs.declared.row.Row.{Row}
use Rattle.bridge_movement.specs.declared.shape.Shape.{Shape}

-- one round for each table, less one where the tables are even in number
abbrev pub mitchell_rounds : ℕ → ℕ
mitchell_rounds tables = if tables % 2 == 0 then tables - 1 else tables

-- as many sets as tables, and two fields of as many pairs
abbrev pub mitchell_shape : ℕ → Shape
mitchell_shape tables = record {
  tables = tables;
  rounds = mitchell_rounds tables;
  sets = tables;
  pairs = 2 * tables;
  split = tables;
}

-- how many tables the pairs of East and West have gone on: one after each round, and where the tables are even in
-- number, one more from round T / 2 on
abbrev pub tables_moved : ℕ → ℕ → ℕ
tables_moved tables round =
    if tables % 2 == 0 && nat_le (tables / 2) round then round + 1 else round

-- North and South stay, East and West go on to higher tables, and the sets go to lower ones
abbrev pub mitchell_row : ℕ → ℕ → ℕ → Row
mitchell_row tables round table = record {
  round = round + 1;
  table = table + 1;
  ns = table + 1;
  ew = tables + 1 + (table + tables - tables_moved tables round) % tables;
  set = (table + round) % tables + 1;
}

-- the row at an index
abbrev pub mitchell_row_at : ℕ → ℕ → Row
mitchell_row_at tables index = mitchell_row tables (index / tables) (index % tables)

-- each row is the one of its round and table
abbrev pub FollowsMitchell : ℕ → List Row → Type 0
FollowsMitchell tables rows =
    (index : ℕ) (d : Row) → index < length rows → slice_index_or rows index d ≡ mitchell_row_at tables index
