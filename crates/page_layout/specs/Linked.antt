-- Rows of an HTML table whose cells may lead to other parts of the page.
use Rattle.std.specs.Prelude.{ℕ, ◌+◌, ◌==◌, if◌then◌else◌, List, [], ◌∷◌, ◌++◌, codes, length}
use Rattle.page_layout.specs.declared.format.Column.{Column}
use Rattle.page_layout.specs.Html.{html_text}
use Rattle.page_layout.specs.Table.{align_class, cell_room}

-- what begins a link to the part of that id; no id is no link
abbrev pub link_start : List ℕ → List ℕ
link_start target = if length target == 0 then [] else (codes "<a href=\"#" ++ target) ++ codes "\">"

-- what ends a link
abbrev pub link_end : List ℕ → List ℕ
link_end target = if length target == 0 then [] else codes "</a>"

-- a cell of a column, that leads to a part of the page
abbrev pub linked_cell : Column → List ℕ → List ℕ → List ℕ
linked_cell column target text =
    ((((codes "<td" ++ align_class column.align) ++ link_start target) ++ html_text column.content text) ++ link_end target)
    ++ codes "</td>"

-- the cells of columns, one after another, each with the part that it leads to
abbrev pub linked_cells : List Column → List (List ℕ) → List (List ℕ) → List ℕ
linked_cells [] targets cells = []
linked_cells (column ∷ columns) [] cells = []
linked_cells (column ∷ columns) (target ∷ targets) [] = []
linked_cells (column ∷ columns) (target ∷ targets) (cell ∷ cells) =
    linked_cell column target cell ++ linked_cells columns targets cells

-- a row of cells, one for each column
unfoldable pub linked_row : List Column → List (List ℕ) → List (List ℕ) → List ℕ
linked_row columns targets cells = (codes "<tr>" ++ linked_cells columns targets cells) ++ codes "</tr>\n"

-- the most bytes of a cell
abbrev pub linked_cell_room : Column → List ℕ → List ℕ → ℕ
linked_cell_room column target text = cell_room column text + (16 + length target)

-- the most bytes of the cells of a row
abbrev pub linked_row_room : List Column → List (List ℕ) → List (List ℕ) → ℕ
linked_row_room [] targets cells = 0
linked_row_room (column ∷ columns) [] cells = 0
linked_row_room (column ∷ columns) (target ∷ targets) [] = 0
linked_row_room (column ∷ columns) (target ∷ targets) (cell ∷ cells) =
    linked_cell_room column target cell + linked_row_room columns targets cells
