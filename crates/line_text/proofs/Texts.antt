-- The first line of a text.
use Rattle.std.proofs.Common.{◌≡◌, ◌≢◌, ℕ, ◌-◌, ◌==◌, false, cond, List, [], ◌∷◌, ◌++◌, length, take, drop, refl, sym, ap, ◌∙◌, arith}
use Rattle.std.specs.Prelude.{All}
use Rattle.std.specs.List.{slice_split}
use Rattle.std.specs.Str.Lines.{lines, lines_of_parts, strip_carriage_return}
use Rattle.std.proofs.lemmas.Bool.{ne_eqb}
use Rattle.std.proofs.lemmas.List.Splits.{slice_split_at, slice_split_none}
use Rattle.line_text.proofs.Splits.{none_separates, some_part}

-- a line before a line feed
pub lines_first : (text line rest : List ℕ) → text ≡ line ++ 10 ∷ rest → All (λ byte. byte ≢ 10) line → lines text ≡ strip_carriage_return line ∷ lines rest
lines_first text line rest whole none =
    let parts : slice_split (λ b. b == 10) text ≡ line ∷ slice_split (λ b. b == 10) rest =
    ap (slice_split (λ b. b == 10)) whole ∙ slice_split_at (λ b. b == 10) line 10 rest (none_separates 10 line none) refl in
    let more = some_part 10 rest in
    let first : lines text ≡ lines_of_parts (line ∷ more.0 ∷ more.1) = ap lines_of_parts parts ∙ ap (λ (ps : List (List ℕ)). lines_of_parts (line ∷ ps)) more.2 in
    first ∙ ap (λ (ps : List (List ℕ)). strip_carriage_return line ∷ lines_of_parts ps) (sym more.2)

-- what is left past the end of a text is empty
nothing_left : (text : List ℕ) → take (length text - length text) (drop (length text) text) ≡ []
nothing_left text = let none : length text - length text ≡ 0 = omega arith in rw none refl

-- a last line without a line feed
pub lines_last : (text : List ℕ) → All (λ byte. byte ≢ 10) text → (length text ≡ 0 → ⊥) → lines text ≡ text ∷ lines (take (length text - length text) (drop (length text) text))
lines_last [] none some = absurd (some refl)
lines_last (byte ∷ text) none some =
    let some_bytes : (length (byte ∷ text) == 0) ≡ false = ne_eqb (length (byte ∷ text)) 0 some in
    let whole : lines (byte ∷ text) ≡ cond (length (byte ∷ text) == 0) [] ((byte ∷ text) ∷ []) =
    ap lines_of_parts (slice_split_none (λ b. b == 10) (byte ∷ text) (none_separates 10 (byte ∷ text) none)) in
    whole ∙ ap (λ b. cond b [] ((byte ∷ text) ∷ [])) some_bytes ∙ ap (λ (rest : List ℕ). (byte ∷ text) ∷ lines rest) (sym (nothing_left (byte ∷ text)))
