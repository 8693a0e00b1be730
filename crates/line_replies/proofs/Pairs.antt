-- Lines that are added one after another.
use Rattle.std.proofs.Common.{◌≡◌, ℕ, ◌+◌, ◌<◌, List, [], ◌∷◌, ◌++◌, length, take, map, get_or, add-one, append_assoc, refl}
use Rattle.std.specs.Prelude.{codes}
use Rattle.line_replies.specs.ReplyTexts.{listed_text}
use Rattle.std.proofs.Math.Seq.{take-suc}
use Rattle.std.proofs.lemmas.List.{map-append}
use Rattle.line_text.specs.Lines.{lines_text}
use Rattle.line_replies.proofs.Added.{lines_more}

-- the line of one element more
pub one_more : {X : Type 0} (f : X → List ℕ) (xs : List X) (i : ℕ) (d : X) (a b c : List ℕ) → i < length xs → b ≡ a ++ lines_text (map f (take i xs)) → c ≡ b ++ (f (get_or xs i d) ++ 10 ∷ []) → c ≡ a ++ lines_text (map f (take (i + 1) xs))
one_more f xs i d a b c inside first second =
    rw (add-one, take-suc xs i d inside, map-append f (take i xs) (get_or xs i d ∷ []), lines_more (map f (take i xs)) (f (get_or xs i d)), second, first)
    (append_assoc a (lines_text (map f (take i xs))) (f (get_or xs i d) ++ 10 ∷ []))

-- `OK`, lines, and a full stop
pub listed_is : (lines : List (List ℕ)) (a b c d : List ℕ) → a ≡ [] → b ≡ a ++ codes "OK\n" → c ≡ b ++ lines_text lines → d ≡ c ++ codes ".\n" → d ≡ listed_text lines
listed_is lines a b c d empty first second last = rw (last, second, first, empty, lines_more lines (codes ".")) refl
