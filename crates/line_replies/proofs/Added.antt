-- A text to which lines were added.
use Rattle.std.proofs.Common.{◌≡◌, ℕ, List, [], ◌∷◌, ◌++◌, refl, sym, ap, ◌∙◌, append_assoc}
use Rattle.line_text.specs.Lines.{lines_text}

-- the text of two lists of lines
lines_append : (xs ys : List (List ℕ)) → lines_text (xs ++ ys) ≡ lines_text xs ++ lines_text ys
lines_append [] ys = refl
lines_append (x ∷ xs) ys =
    ap (λ rest. x ++ 10 ∷ rest) (lines_append xs ys) ∙ sym (append_assoc x (10 ∷ lines_text xs) (lines_text ys))

-- one line more
pub lines_more : (xs : List (List ℕ)) (x : List ℕ) → lines_text (xs ++ x ∷ []) ≡ lines_text xs ++ (x ++ 10 ∷ [])
lines_more xs x = lines_append xs (x ∷ [])

-- a line, and then lines
pub line_then : (a b c x : List ℕ) (xs : List (List ℕ)) → b ≡ a ++ (x ++ 10 ∷ []) → c ≡ b ++ lines_text xs → c ≡ a ++ lines_text (x ∷ xs)
line_then a b c x xs first second = rw (second, first) (simp append_assoc)

-- a line, and no more
pub line_last : (a b x : List ℕ) → b ≡ a ++ (x ++ 10 ∷ []) → b ≡ a ++ lines_text (x ∷ [])
line_last a b x first = first
