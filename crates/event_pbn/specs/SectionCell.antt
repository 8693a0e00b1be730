-- The section of a row of a table (Portable Bridge Notation 2.1, section 4).
use Rattle.std.specs.Prelude.{ℕ, List, ◌++◌, codes}
use Rattle.page_layout.specs.declared.format.Align.TheVariants.{Left}
use Rattle.page_layout.specs.Table.{in_width}
use Rattle.event_ranking.specs.EventText.{section_text}

-- the letters of a section, which begin a row, and a blank
unfoldable pub section_cell : ℕ → List ℕ
section_cell section = in_width 2 Left (section_text section) ++ codes " "
