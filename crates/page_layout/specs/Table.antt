-- Tables, in plain text and in HTML.
use Rattle.std.specs.Prelude.{ℕ, ◌+◌, ◌-◌, ◌*◌, List, [], ◌∷◌, ◌++◌, codes, length, replicate}
use Rattle.page_layout.specs.declared.format.Format.{Format}
use Rattle.page_layout.specs.declared.format.Format.TheVariants.{Plain, Html}
use Rattle.page_layout.specs.declared.format.Align.{Align}
use Rattle.page_layout.specs.declared.format.Align.TheVariants.{Left, Right}
use Rattle.page_layout.specs.declared.format.Content.{Content}
use Rattle.page_layout.specs.declared.format.Content.TheVariants.{Words}
use Rattle.page_layout.specs.declared.format.Column.{Column}
use Rattle.page_layout.specs.Html.{html_text}

-- the class of a cell that stands at the right, with the end of its tag
abbrev pub align_class : Align → List ℕ
align_class Left = codes ">"
align_class Right = codes " class=\"r\">"

-- a cell of HTML between its tags
abbrev pub html_cell : List ℕ → List ℕ → Align → Content → List ℕ → List ℕ
html_cell start end align content text = ((start ++ align_class align) ++ html_text content text) ++ end

-- a text in so many bytes: blanks follow it, or stand before it; a longer text is not cut off
abbrev pub in_width : ℕ → Align → List ℕ → List ℕ
in_width width Left text = text ++ replicate (width - length text) 32
in_width width Right text = replicate (width - length text) 32 ++ text

-- a cell of plain text: each column stands after two blanks
abbrev pub plain_cell : ℕ → Align → List ℕ → List ℕ
plain_cell width align text = codes "  " ++ in_width width align text

-- a cell of a column
abbrev pub cell_text : Format → Column → List ℕ → List ℕ
cell_text Plain column text = plain_cell column.width column.align text
cell_text Html column text = html_cell (codes "<td") (codes "</td>") column.align column.content text

-- the title of a column, in which no letter is a suit
abbrev pub title_text : Format → Column → List ℕ → List ℕ
title_text Plain column title = plain_cell column.width column.align title
title_text Html column title = html_cell (codes "<th scope=\"col\"") (codes "</th>") column.align Words title

-- the cells of columns, one after another
abbrev pub cells_text : Format → List Column → List (List ℕ) → List ℕ
cells_text format [] cells = []
cells_text format (column ∷ columns) [] = []
cells_text format (column ∷ columns) (cell ∷ cells) = cell_text format column cell ++ cells_text format columns cells

-- the titles of columns, one after another
abbrev pub titles_text : Format → List Column → List (List ℕ) → List ℕ
titles_text format [] titles = []
titles_text format (column ∷ columns) [] = []
titles_text format (column ∷ columns) (title ∷ titles) = title_text format column title ++ titles_text format columns titles

-- what begins a row
abbrev pub row_start : Format → List ℕ
row_start Plain = []
row_start Html = codes "<tr>"

-- what ends a row
abbrev pub row_end : Format → List ℕ
row_end Plain = codes "\n"
row_end Html = codes "</tr>\n"

-- a row of cells, one for each column
abbrev pub row_text : Format → List Column → List (List ℕ) → List ℕ
row_text format columns cells = (row_start format ++ cells_text format columns cells) ++ row_end format

-- what begins the row of titles
abbrev pub title_row_start : Format → List ℕ
title_row_start Plain = []
title_row_start Html = codes "<thead><tr>"

-- what ends the row of titles
abbrev pub title_row_end : Format → List ℕ
title_row_end Plain = codes "\n"
title_row_end Html = codes "</tr></thead>\n"

-- the row of titles, one for each column
abbrev pub title_row : Format → List Column → List (List ℕ) → List ℕ
title_row format columns titles = (title_row_start format ++ titles_text format columns titles) ++ title_row_end format

-- what begins a table
abbrev pub table_start : Format → List ℕ
table_start Plain = []
table_start Html = codes "<table>\n"

-- the caption of a table, which plain text has not
abbrev pub caption_text : Format → List ℕ → List ℕ
caption_text Plain words = []
caption_text Html words = (codes "<caption>" ++ html_text Words words) ++ codes "</caption>\n"

-- what ends a table: in plain text an empty line
abbrev pub table_end : Format → List ℕ
table_end Plain = codes "\n"
table_end Html = codes "</table>\n"

-- the most bytes of a cell: one byte is written as 31 at most
abbrev pub cell_room : Column → List ℕ → ℕ
cell_room column text = 31 + column.width + 31 * length text

-- the most bytes of the cells of a row
abbrev pub row_room : List Column → List (List ℕ) → ℕ
row_room [] cells = 0
row_room (column ∷ columns) [] = 0
row_room (column ∷ columns) (cell ∷ cells) = cell_room column cell + row_room columns cells
