-- The columns of a table.
use Rattle.std.specs.Prelude.{ℕ, ◌+◌, List, map, sum_by}
use Rattle.page_layout.specs.declared.format.Column.{Column}
use Rattle.page_layout.specs.declared.format.Content.{Content}

-- how many bytes of a line columns take, each after two blanks
abbrev pub width_of : List Column → ℕ
width_of columns = sum_by (λ (column : Column). 2 + column.width) columns

-- what the columns of a table hold
abbrev pub contents_of : List Column → List Content
contents_of columns = map (λ (column : Column). column.content) columns
