-- A text to which lines were added.
use Rattle.std.proofs.Common.{◌≡◌, ℕ, ◌+◌, ◌<◌, ◌==◌, if◌then◌else◌, List, [], ◌∷◌, ◌++◌, length, get_or, map, take, sym, ap, ◌∙◌, append_assoc, arith}
use Rattle.std.specs.List.{range_with_len}
use Rattle.std.proofs.lemmas.List.{length-map, length-take, map-append, take_more}
use Rattle.std.proofs.lemmas.List.FromFn.{map-range_with_len_more}
use Rattle.line_text.specs.Lines.{lines_text}
use Rattle.line_text.specs.Words.{spaced}
use Rattle.bridge_pbn.proofs.Joined.{lines_append, lines_more, gap_of, spaced_more}

-- a line, and then lines
pub line_then : (a b c x : List ℕ) (xs : List (List ℕ)) → b ≡ a ++ (x ++ 10 ∷ []) → c ≡ b ++ lines_text xs → c ≡ a ++ lines_text (x ∷ xs)
line_then a b c x xs first second = rw (second, first) (simp append_assoc)

-- a line, and no more
pub line_last : (a b x : List ℕ) → b ≡ a ++ (x ++ 10 ∷ []) → b ≡ a ++ lines_text (x ∷ [])
line_last a b x first = first

-- lines, and then more of them
pub lines_then : (a b c : List ℕ) (xs ys : List (List ℕ)) → b ≡ a ++ lines_text xs → c ≡ b ++ lines_text ys → c ≡ a ++ lines_text (xs ++ ys)
lines_then a b c xs ys first second = rw (second, first, lines_append xs ys) (append_assoc a (lines_text xs) (lines_text ys))

-- the line of one number more
pub one_more : (f : ℕ → List ℕ) (a b c : List ℕ) (n : ℕ) → b ≡ a ++ lines_text (map f (range_with_len 0 n)) → c ≡ b ++ (f n ++ 10 ∷ []) → c ≡ a ++ lines_text (map f (range_with_len 0 (n + 1)))
one_more f a b c n first second =
    rw (second, first, map-range_with_len_more f 0 n n (omega arith), lines_more (map f (range_with_len 0 n)) (f n))
    (append_assoc a (lines_text (map f (range_with_len 0 n))) (f n ++ 10 ∷ []))

-- one word more, after a space if it is not the first
pub word_more : {X : Type 0} (f : X → List ℕ) (a b c : List ℕ) (xs : List X) (n : ℕ) (x : X) → n < length xs → x ≡ get_or xs n x → b ≡ a ++ spaced (map f (take n xs)) → c ≡ (b ++ (if n == 0 then [] else 32 ∷ [])) ++ f x → c ≡ a ++ spaced (map f (take (n + 1) xs))
word_more f a b c xs n x within is first second =
    let words : List (List ℕ) = map f (take n xs) in
    let count : length words ≡ n = omega (arith, length-map (take n xs) f, length-take n xs, within) in
    let more : map f (take (n + 1) xs) ≡ words ++ f x ∷ []
    = ap (map f) (take_more xs n x within) ∙ map-append f (take n xs) (get_or xs n x ∷ []) ∙ ap (λ y. words ++ f y ∷ []) (sym is) in
    rw (second, first, more, spaced_more words (f x), gap_of words n count) (simp append_assoc)
