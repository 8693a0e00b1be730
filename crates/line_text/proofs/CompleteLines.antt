-- The complete lines of bytes, as bytes are added to a line that has begun.
use Rattle.std.proofs.Common.{◌≡◌, ℕ, ◌∙◌, Bool, true, false, not, ◌&&◌, List, [], ◌∷◌, ◌++◌, refl, sym, ap, append-nil}
use Rattle.std.specs.Prelude.{nat_eq}
use Rattle.std.specs.List.{list_all}
use Rattle.line_text.specs.Lines.{onto_first_line, complete_lines, is_within_line}

-- the bytes go onto the front of the first line, if there is one
abbrev pub joined_first : List ℕ → List (List ℕ) → List (List ℕ)
joined_first begun [] = []
joined_first begun (line ∷ lines) = (begun ++ line) ∷ lines

-- the first byte of a line, and the rest of it
not_line_feed : (same rest : Bool) → (not same && rest) ≡ true → (same ≡ false) × (rest ≡ true)
not_line_feed true rest both = cc
not_line_feed false rest both = (refl, both)

-- a byte, and then what had begun after it
joined_one : (byte : ℕ) (begun : List ℕ) (lines : List (List ℕ)) → onto_first_line byte (joined_first begun lines) ≡ joined_first (byte ∷ begun) lines
joined_one byte begun [] = refl
joined_one byte begun (line ∷ lines) = refl

-- where nothing had begun, the lines stay
joined_none : (lines : List (List ℕ)) → lines ≡ joined_first [] lines
joined_none [] = refl
joined_none (line ∷ lines) = refl

-- what has begun of a line goes onto the first of the lines to come
pub lines_begun : (begun bytes : List ℕ) → list_all is_within_line begun ≡ true → complete_lines (begun ++ bytes) ≡ joined_first begun (complete_lines bytes)
lines_begun [] bytes within = joined_none (complete_lines bytes)
lines_begun (byte ∷ begun) bytes within =
    let parts = not_line_feed (nat_eq byte 10) (list_all is_within_line begun) within in
    rw (parts.0, lines_begun begun bytes parts.1) (joined_one byte begun (complete_lines bytes))

-- a line feed completes the line
pub lines_seam : (line bytes : List ℕ) → list_all is_within_line line ≡ true → complete_lines (line ++ 10 ∷ bytes) ≡ line ∷ complete_lines bytes
lines_seam line bytes within = lines_begun line (10 ∷ bytes) within ∙ ap (λ begun. begun ∷ complete_lines bytes) (append-nil line)

-- no line is complete without a line feed
pub lines_none : (line : List ℕ) → list_all is_within_line line ≡ true → complete_lines line ≡ []
lines_none line within = ap complete_lines (sym (append-nil line)) ∙ lines_begun line [] within

-- one byte more within the line
pub within_push : (line : List ℕ) (byte : ℕ) → list_all is_within_line line ≡ true → nat_eq byte 10 ≡ false → list_all is_within_line (line ++ byte ∷ []) ≡ true
within_push [] byte within other = rw other refl
within_push (first ∷ line) byte within other =
    let parts = not_line_feed (nat_eq first 10) (list_all is_within_line line) within in
    rw (parts.0, within_push line byte parts.1 other) refl
