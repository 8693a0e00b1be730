-- How often each score of a board was made, as bars, in HTML.
use Rattle.std.specs.Prelude.{ℕ, List, [], ◌∷◌, ◌++◌, codes, flat_map, length}
use Rattle.std.specs.Fmt.{decimal, signed_decimal}
use Rattle.page_layout.specs.declared.format.Format.TheVariants.{Html}
use Rattle.page_layout.specs.Table.{table_end}
use Rattle.bridge_results.specs.declared.frequency.Frequency.{Frequency}
use Rattle.bridge_results.specs.declared.traveller.BoardLine.{BoardLine}
use Rattle.bridge_results.specs.Frequencies.{frequencies_of}

-- a part of a bar, so many parts wide
abbrev pub rect : ℕ → List ℕ
rect width = (codes "<rect width=\"" ++ decimal width) ++ codes "\" height=\"1\"/>"

-- a bar of so many parts, of which the first ones are filled
abbrev pub bar : ℕ → ℕ → List ℕ
bar parts filled =
    ((((codes "<svg viewBox=\"0 0 " ++ decimal parts) ++ codes " 1\" preserveAspectRatio=\"none\" aria-hidden=\"true\">") ++ rect parts)
    ++ rect filled) ++ codes "</svg>"

-- the row of a score of a board of so many plays: a bar with a part for each play, filled where it is of that score, and how many are
unfoldable pub often_row : ℕ → Frequency → List ℕ
often_row plays frequency =
    (((((codes "<tr><th scope=\"row\" class=\"r\">" ++ signed_decimal frequency.score) ++ codes "</th><td>")
    ++ bar plays frequency.count) ++ codes "</td><td>") ++ decimal frequency.count) ++ codes "&times;</td></tr>\n"

-- what stands above the rows
unfoldable pub often_head : List ℕ
often_head = codes "<table class=\"often\">\n<caption>How often</caption>\n"

-- scores of so many plays, if there is one
abbrev pub often_table : ℕ → List Frequency → List ℕ
often_table plays [] = []
often_table plays (first ∷ rest) = often_head ++ (flat_map (often_row plays) (first ∷ rest) ++ table_end Html)

-- How often each score of the lines was made, beside how many lines there are.
abbrev pub often_html : List BoardLine → List ℕ
often_html lines = often_table (length lines) (frequencies_of lines)
