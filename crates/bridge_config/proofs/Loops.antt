-- Reading rows and pairs one after the other, as a loop does.
use Rattle.std.proofs.Common.{◌≡◌, ℕ, suc, ◌-◌, ◌+◌, ◌≤◌, ◌<◌, List, [], ◌∷◌, ◌++◌, Result, Ok, Err, refl, sym, ap, ◌∙◌, append_assoc, arith}
use Rattle.std.proofs.lemmas.List.{append-nil}
use Rattle.bridge_movement.specs.declared.row.Row.{Row}
use Rattle.bridge_config.specs.declared.refused.ConfigFault.{ConfigFault}
use Rattle.bridge_config.specs.ConfigValue.{Pair}
use Rattle.bridge_config.specs.Then.{◌>>=◌}
use Rattle.bridge_config.specs.LineReading.{row_line, pair_line}
use Rattle.bridge_config.specs.Reading.{due_line, rows_in, pairs_in}

-- what was read before, and what is still read
abbrev pub with_front : {X : Type 0} → List X → Result (List X × List (List ℕ)) ConfigFault → Result (List X × List (List ℕ)) ConfigFault
with_front front read = read >>= λ x. Ok (front ++ x.0, x.1)

-- one element more in front is one less that is still read
regroup : {X : Type 0} (front : List X) (x : X) (read : Result (List X × List (List ℕ)) ConfigFault) → with_front front (read >>= λ y. Ok (x ∷ y.0, y.1)) ≡ with_front (front ++ x ∷ []) read
regroup {X} front x (Ok y) = ap (λ (xs : List X). Ok (xs, y.1)) (simp append_assoc)
regroup front x (Err fault) = refl

-- a row that was read goes to those before it
pub rows_go_on : (front : List Row) (count i number : ℕ) (texts : List (List ℕ)) (line : List ℕ) (row : Row) (after : List (List ℕ)) (total : Result (List Row × List (List ℕ)) ConfigFault) → i < count
    → due_line number texts ≡ Ok (line, after) → row_line number line ≡ Ok row
    → with_front front (rows_in (count - i) number texts) ≡ total → with_front (front ++ row ∷ []) (rows_in (count - (i + 1)) (number + 1) after) ≡ total
unfolding rows_in
rows_go_on front count i number texts line row after total lt due is so_far =
    let k : count - i ≡ suc (count - (i + 1)) = omega arith in
    let one : with_front front (rows_in (count - i) number texts) ≡ with_front (front ++ row ∷ []) (rows_in (count - (i + 1)) (number + 1) after) =
    rw (k, due, is) (regroup front row (rows_in (count - (i + 1)) (number + 1) after)) in
    sym one ∙ so_far

-- a line that is missing ends the reading of rows
pub rows_miss_line : (fault : ConfigFault) (front : List Row) (count i number : ℕ) (texts : List (List ℕ)) (total : Result (List Row × List (List ℕ)) ConfigFault) → i < count
    → due_line number texts ≡ Err fault → with_front front (rows_in (count - i) number texts) ≡ total → total ≡ Err fault
unfolding rows_in
rows_miss_line fault front count i number texts total lt due so_far =
    let k : count - i ≡ suc (count - (i + 1)) = omega arith in
    let one : with_front front (rows_in (count - i) number texts) ≡ Err fault = rw (k, due) refl in
    sym so_far ∙ one

-- a row's fault ends the reading of rows
pub rows_end_at : (fault : ConfigFault) (front : List Row) (count i number : ℕ) (texts : List (List ℕ)) (line : List ℕ) (after : List (List ℕ)) (total : Result (List Row × List (List ℕ)) ConfigFault) → i < count
    → due_line number texts ≡ Ok (line, after) → row_line number line ≡ Err fault → with_front front (rows_in (count - i) number texts) ≡ total → total ≡ Err fault
unfolding rows_in
rows_end_at fault front count i number texts line after total lt due is so_far =
    let k : count - i ≡ suc (count - (i + 1)) = omega arith in
    let one : with_front front (rows_in (count - i) number texts) ≡ Err fault = rw (k, due, is) refl in
    sym so_far ∙ one

-- after the last row the rows so far are all
pub rows_are_done : (front : List Row) (count i number : ℕ) (texts : List (List ℕ)) (total : Result (List Row × List (List ℕ)) ConfigFault) → count ≤ i
    → with_front front (rows_in (count - i) number texts) ≡ total → total ≡ Ok (front, texts)
unfolding rows_in
rows_are_done front count i number texts total le so_far =
    let k : count - i ≡ 0 = omega arith in
    let one : with_front front (rows_in (count - i) number texts) ≡ Ok (front, texts) = rw k (ap (λ (rows : List Row). Ok (rows, texts)) (append-nil front)) in
    sym so_far ∙ one

-- a pair that was read goes to those before it, and its keys to theirs
pub pairs_go_on : (front : List Pair) (count i number index : ℕ) (earlier : List ℕ) (texts : List (List ℕ)) (line : List ℕ) (pair : Pair) (after : List (List ℕ)) (total : Result (List Pair × List (List ℕ)) ConfigFault) → i < count
    → due_line number texts ≡ Ok (line, after) → pair_line number index earlier line ≡ Ok pair
    → with_front front (pairs_in (count - i) number index earlier texts) ≡ total → with_front (front ++ pair ∷ []) (pairs_in (count - (i + 1)) (number + 1) (index + 1) (earlier ++ pair.keys) after) ≡ total
unfolding pairs_in
pairs_go_on front count i number index earlier texts line pair after total lt due is so_far =
    let k : count - i ≡ suc (count - (i + 1)) = omega arith in
    let rest : Result (List Pair × List (List ℕ)) ConfigFault = pairs_in (count - (i + 1)) (number + 1) (index + 1) (earlier ++ pair.keys) after in
    let one : with_front front (pairs_in (count - i) number index earlier texts) ≡ with_front (front ++ pair ∷ []) rest = rw (k, due, is) (regroup front pair rest) in
    sym one ∙ so_far

-- a line that is missing ends the reading of pairs
pub pairs_miss_line : (fault : ConfigFault) (front : List Pair) (count i number index : ℕ) (earlier : List ℕ) (texts : List (List ℕ)) (total : Result (List Pair × List (List ℕ)) ConfigFault) → i < count
    → due_line number texts ≡ Err fault → with_front front (pairs_in (count - i) number index earlier texts) ≡ total → total ≡ Err fault
unfolding pairs_in
pairs_miss_line fault front count i number index earlier texts total lt due so_far =
    let k : count - i ≡ suc (count - (i + 1)) = omega arith in
    let one : with_front front (pairs_in (count - i) number index earlier texts) ≡ Err fault = rw (k, due) refl in
    sym so_far ∙ one

-- a pair's fault ends the reading of pairs
pub pairs_end_at : (fault : ConfigFault) (front : List Pair) (count i number index : ℕ) (earlier : List ℕ) (texts : List (List ℕ)) (line : List ℕ) (after : List (List ℕ)) (total : Result (List Pair × List (List ℕ)) ConfigFault) → i < count
    → due_line number texts ≡ Ok (line, after) → pair_line number index earlier line ≡ Err fault → with_front front (pairs_in (count - i) number index earlier texts) ≡ total → total ≡ Err fault
unfolding pairs_in
pairs_end_at fault front count i number index earlier texts line after total lt due is so_far =
    let k : count - i ≡ suc (count - (i + 1)) = omega arith in
    let one : with_front front (pairs_in (count - i) number index earlier texts) ≡ Err fault = rw (k, due, is) refl in
    sym so_far ∙ one

-- after the last pair the pairs so far are all
pub pairs_are_done : (front : List Pair) (count i number index : ℕ) (earlier : List ℕ) (texts : List (List ℕ)) (total : Result (List Pair × List (List ℕ)) ConfigFault) → count ≤ i
    → with_front front (pairs_in (count - i) number index earlier texts) ≡ total → total ≡ Ok (front, texts)
unfolding pairs_in
pairs_are_done front count i number index earlier texts total le so_far =
    let k : count - i ≡ 0 = omega arith in
    let one : with_front front (pairs_in (count - i) number index earlier texts) ≡ Ok (front, texts) = rw k (ap (λ (pairs : List Pair). Ok (pairs, texts)) (append-nil front)) in
    sym so_far ∙ one
