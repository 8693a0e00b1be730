-- The rows that are read are spelled so, and those that are spelled so are read.
use Rattle.std.proofs.Common.{◌≡◌, ℕ, zero, suc, ◌+◌, List, [], ◌∷◌, ◌++◌, length, Ok, refl, ap, subst}
use Rattle.std.specs.Prelude.{map, All}
use Rattle.std.proofs.lemmas.List.Elements.{All-head, All-tail}
use Rattle.bridge_movement.specs.declared.row.Row.{Row}
use Rattle.bridge_config.specs.Spelling.{row_text}
use Rattle.bridge_config.specs.Then.{◌>>=◌}
use Rattle.bridge_config.specs.LineReading.{row_line}
use Rattle.bridge_config.specs.Reading.{rows_in}
use Rattle.bridge_config.proofs.FiveWordLaws.{IsByteRow, row_takes, row_again}
use Rattle.bridge_config.proofs.Steps.{bind_ok, ok_is, line_takes, IsShort, TakesLines, takes_none, takes_line, row_short}

-- lines in front were read as rows, and others are left
pub record TakesRows (count : ℕ) (texts : List (List ℕ)) (rows : List Row) (rest : List (List ℕ)) : Type 0 where
  pub count_is : length rows ≡ count
  pub lines : TakesLines texts (map row_text rows) rest

-- lines that were read as rows spell them
pub rows_takes : (count n : ℕ) (texts : List (List ℕ)) (read : List Row × List (List ℕ)) →
    rows_in count n texts ≡ Ok read → TakesRows count texts read.0 read.1
unfolding rows_in
rows_takes zero n texts read e =
    subst (λ (x : List Row × List (List ℕ)). TakesRows 0 texts x.0 x.1) (ok_is ([], texts) read e)
    (record { count_is = refl; lines = takes_none texts })
rows_takes (suc count) n texts read e =
    let a = line_takes n texts (row_line n) (λ row rest. rows_in count (n + 1) rest >>= λ others. Ok (row ∷ others.0, others.1)) read e in
    let line : List ℕ = a.0 in
    let rest : List (List ℕ) = a.1 in
    let row : Row = a.2 in
    let b = bind_ok (rows_in count (n + 1) rest) (λ others. Ok (row ∷ others.0, others.1)) read a.5 in
    let others = rows_takes count (n + 1) rest b.0 b.1 in
    subst (λ (x : List Row × List (List ℕ)). TakesRows (suc count) texts x.0 x.1) (ok_is (row ∷ b.0.0, b.0.1) read b.2)
    (record {
      count_is = ap suc others.count_is;
      lines = takes_line texts line (row_text row) rest (map row_text b.0.0) b.0.1 a.3 (row_takes n line row a.4) (row_short n line row a.4) others.lines;
    })

-- lines that spell rows are read as them
pub rows_again : (n : ℕ) (rows : List Row) (rest : List (List ℕ)) → All IsShort (map row_text rows) → All IsByteRow rows →
    rows_in (length rows) n (map row_text rows ++ rest) ≡ Ok (rows, rest)
unfolding rows_in
rows_again n [] rest short bytes = refl
rows_again n (row ∷ rows) rest short bytes =
    let one : row_line n (row_text row) ≡ Ok row =
    row_again n (row_text row) row (All-head IsShort (row_text row) (map row_text rows) short) (All-head IsByteRow row rows bytes) refl in
    let others : rows_in (length rows) (n + 1) (map row_text rows ++ rest) ≡ Ok (rows, rest) =
    rows_again (n + 1) rows rest (All-tail IsShort (row_text row) (map row_text rows) short) (All-tail IsByteRow row rows bytes) in
    rw (one, others) refl
