-- What the table of the scores of a board is made of.
use Rattle.std.proofs.Common.{◌≡◌, ℕ, ◌==◌, false, List, [], ◌∷◌, ◌++◌, length, flat_map, refl}
use Rattle.page_layout.specs.declared.format.Format.TheVariants.{Html}
use Rattle.page_layout.specs.Table.{table_end}
use Rattle.bridge_results.specs.declared.frequency.Frequency.{Frequency}
use Rattle.bridge_results.specs.HtmlOften.{often_row, often_head, often_table}

-- the table of some score
pub some_often : (plays : ℕ) (frequencies : List Frequency) → (length frequencies == 0) ≡ false
    → often_head ++ (flat_map (often_row plays) frequencies ++ table_end Html) ≡ often_table plays frequencies
some_often plays [] none = absurd cc
some_often plays (frequency ∷ frequencies) some = refl
