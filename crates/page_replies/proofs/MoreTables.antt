-- The line of one table more.
use Rattle.std.proofs.Common.{◌≡◌, ℕ, ◌+◌, List, [], ◌∷◌, ◌++◌, map, append_assoc, arith}
use Rattle.std.specs.List.{range_with_len}
use Rattle.std.proofs.lemmas.List.FromFn.{map-range_with_len_more}
use Rattle.line_text.specs.Lines.{lines_text}
use Rattle.line_replies.proofs.Added.{lines_more}

-- the lines of numbers from 1, and that of the next
pub one_more : (f : ℕ → List ℕ) (a b c : List ℕ) (n : ℕ) → b ≡ a ++ lines_text (map f (range_with_len 1 n)) → c ≡ b ++ (f (n + 1) ++ 10 ∷ []) → c ≡ a ++ lines_text (map f (range_with_len 1 (n + 1)))
one_more f a b c n first second =
    rw (second, first, map-range_with_len_more f 1 n (n + 1) (omega arith), lines_more (map f (range_with_len 1 n)) (f (n + 1)))
    (append_assoc a (lines_text (map f (range_with_len 1 n))) (f (n + 1) ++ 10 ∷ []))
