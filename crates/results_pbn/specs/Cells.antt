-- The cells of a row of a table (Portable Bridge Notation 2.1, section 4): each in the width that its column declares, with a blank
-- between each two.
use Rattle.std.specs.Prelude.{ℕ, List, [], ◌∷◌, ◌++◌, codes}
use Rattle.page_layout.specs.declared.format.Align.TheVariants.{Left, Right}
use Rattle.page_layout.specs.Table.{in_width}

-- a text, or a dash where there is no value
abbrev pub or_dash : List ℕ → List ℕ
or_dash [] = codes "-"
or_dash (byte ∷ bytes) = byte ∷ bytes

-- a cell at the right of its column, behind a blank
abbrev pub right_cell : ℕ → List ℕ → List ℕ
right_cell width text = codes " " ++ in_width width Right (or_dash text)

-- a cell at the left of its column, behind a blank
abbrev pub left_cell : ℕ → List ℕ → List ℕ
left_cell width text = codes " " ++ in_width width Left (or_dash text)
