-- Lines that a loop has written.
use Rattle.std.proofs.Common.{◌≡◌, ℕ, zero, suc, ◌+◌, ◌<◌, List, [], ◌∷◌, length, get_or, map, sym, ap, ◌∙◌, refl, arith}
use Rattle.std.proofs.lemmas.List.{get_or-map, length-map}
use Rattle.bridge_movement.specs.declared.row.Row.{Row}
use Rattle.bridge_config.specs.ConfigValue.{Pair, pair_of}
use Rattle.bridge_config.specs.declared.fields.PairFields.{PairFields}
use Rattle.bridge_config.specs.Spelling.{row_text, pair_text, pair_lines}

-- the line of the row at an index
pub row_there : (rows : List Row) (i : ℕ) (d : Row) (e : List ℕ) → i < length rows →
    row_text (get_or rows i d) ≡ get_or (map row_text rows) i e
row_there rows i d e within = sym (get_or-map row_text rows i d e within)

-- as many lines as pairs
pub length-pair_lines : (n : ℕ) (pairs : List Pair) → length (pair_lines n pairs) ≡ length pairs
length-pair_lines n [] = refl
length-pair_lines n (pair ∷ pairs) = let rest = length-pair_lines (n + 1) pairs in omega (arith, rest)

-- the line of the pair at an index
pair_at : (n : ℕ) (pairs : List Pair) (i : ℕ) (d : Pair) (e : List ℕ) → i < length pairs →
    get_or (pair_lines n pairs) i e ≡ pair_text (n + i) (get_or pairs i d)
pair_at n [] i d e within = absurd (omega arith)
pair_at n (pair ∷ pairs) zero d e within = let same : n ≡ n + 0 = omega arith in ap (λ k. pair_text k pair) same
pair_at n (pair ∷ pairs) (suc i) d e within =
    let same : n + 1 + i ≡ n + suc i = omega arith in
    pair_at (n + 1) pairs i d e (omega arith) ∙ ap (λ k. pair_text k (get_or pairs i d)) same

pub pair_there : (pairs : List PairFields) (i : ℕ) (pair : PairFields) (e : List ℕ) → i < length pairs →
    pair ≡ get_or pairs i pair → pair_text (i + 1) (pair_of pair) ≡ get_or (pair_lines 1 (map pair_of pairs)) i e
pair_there pairs i pair e within is =
    let inside : i < length (map pair_of pairs) = omega (arith, within, length-map pairs pair_of) in
    let same : i + 1 ≡ 1 + i = omega arith in
    ap (λ k. pair_text k (pair_of pair)) same
    ∙ ap (λ p. pair_text (1 + i) p) (ap pair_of is ∙ sym (get_or-map pair_of pairs i pair (pair_of pair) within))
    ∙ sym (pair_at 1 (map pair_of pairs) i (pair_of pair) e inside)

-- as many lines of text as pairs in fields
pub pair_lines_of : (pairs : List PairFields) → length (pair_lines 1 (map pair_of pairs)) ≡ length pairs
pair_lines_of pairs = length-pair_lines 1 (map pair_of pairs) ∙ length-map pairs pair_of
