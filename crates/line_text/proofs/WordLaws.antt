-- A line is its words with one space between each two, and the words of such a line are these.
use Rattle.std.proofs.Common.{◌≡◌, ℕ, ◌≤◌, Bool, true, false, not, cond, ltb, ◌==◌, List, [], ◌∷◌, length, get_or, Option, Some, None, refl, sym, ap, ap₂, ◌∙◌}
use Rattle.std.specs.Prelude.{All}
use Rattle.std.specs.List.{list_all}
use Rattle.std.specs.Str.{bytes_eq}
use Rattle.std.specs.Cmp.Lexicographic.{same_text, bytes_decides}
use Rattle.std.proofs.lemmas.Bool.{and_parts, and_from, not-true, le-ltb}
use Rattle.std.proofs.lemmas.List.Sums.{AllPass-from_list_all}
use Rattle.std.proofs.lemmas.List.Splits.{slice_split_at, slice_split_none, join_with_byte-slice_split}
use Rattle.line_text.specs.Words.{Five, spaced, spaced_words, words_of, only_word, word_after, five_words, five_after}

-- a test before an answer that there may not be
some_if : {A : Type 0} (b : Bool) (o : Option A) (y : A) → cond b o None ≡ Some y → (b ≡ true) × (o ≡ Some y)
some_if true o y e = (refl, e)
some_if false o y e = absurd cc

-- ---- words

-- words that compare as equal are equal
pub same_word : (a b : List ℕ) → bytes_eq a b ≡ true → a ≡ b
same_word a b e = same_text a b (sym e)

-- a word compares as equal to itself
pub word_itself : (a : List ℕ) → bytes_eq a a ≡ true
word_itself a = (bytes_decides a a).1 refl

abbrev pub is_not_space : ℕ → Bool
is_not_space byte = not (byte == 32)

-- a line that has words is not too long
nonempty_words : (long : Bool) (words : List (List ℕ)) (first : List ℕ) (rest : List (List ℕ)) → cond long [] words ≡ first ∷ rest → words ≡ first ∷ rest
nonempty_words true words first rest e = absurd cc
nonempty_words false words first rest e = e

-- a line that has words is these, spaced
pub line_of_words : (line first : List ℕ) (rest : List (List ℕ)) → words_of line ≡ first ∷ rest → line ≡ spaced (first ∷ rest)
line_of_words line first rest e =
    sym (join_with_byte-slice_split 32 line) ∙ ap spaced (nonempty_words (ltb 128 (length line)) (spaced_words line) first rest e)

-- a word without a space, byte by byte
no_space_in : (word : List ℕ) → list_all is_not_space word ≡ true → All (λ byte. (byte == 32) ≡ false) word
no_space_in word plain k d within =
    not-true (get_or word k d == 32) (AllPass-from_list_all is_not_space word plain k d within)

-- no word has a space
abbrev pub are_plain : List (List ℕ) → Bool
are_plain words = list_all (λ word. list_all is_not_space word) words

-- words without spaces, spaced and split again, are these words
split_spaced : (first : List ℕ) (rest : List (List ℕ)) → are_plain (first ∷ rest) ≡ true → spaced_words (spaced (first ∷ rest)) ≡ first ∷ rest
split_spaced first [] plain = slice_split_none (λ byte. byte == 32) first (no_space_in first (and_parts (list_all is_not_space first) true plain).0)
split_spaced first (second ∷ rest) plain =
    let p = and_parts (list_all is_not_space first) (are_plain (second ∷ rest)) plain in
    slice_split_at (λ byte. byte == 32) first 32 (spaced (second ∷ rest)) (no_space_in first p.0) refl ∙ ap (λ (words : List (List ℕ)). first ∷ words) (split_spaced second rest p.1)

-- a short line of words without spaces has these words
pub words_of_line : (line first : List ℕ) (rest : List (List ℕ)) → length line ≤ 128 → are_plain (first ∷ rest) ≡ true → line ≡ spaced (first ∷ rest) → words_of line ≡ first ∷ rest
words_of_line line first rest short plain spelled =
    let within : ltb 128 (length line) ≡ false = le-ltb 128 (length line) short in
    rw within (ap spaced_words spelled ∙ split_spaced first rest plain)

-- ---- a keyword and a word

-- the words of which one word is the only one
one_word : (words : List (List ℕ)) (word : List ℕ) → only_word words ≡ Some word → words ≡ word ∷ []
one_word [] word e = absurd cc
one_word (a ∷ []) word e = cc
one_word (a ∷ b ∷ words) word e = absurd cc

-- a line with one word after the keyword has these two words
one_after : (keyword : List ℕ) (words : List (List ℕ)) (word : List ℕ) → word_after keyword words ≡ Some word → words ≡ keyword ∷ word ∷ []
one_after keyword [] word e = absurd cc
one_after keyword (first ∷ words) word e =
    let t = some_if (bytes_eq first keyword) (only_word words) word e in
    let same = same_word first keyword t.0 in
    let one = one_word words word t.1 in cc

-- a line with one word after the keyword is the two, spaced
pub word_takes : (keyword line word : List ℕ) → word_after keyword (words_of line) ≡ Some word → line ≡ spaced (keyword ∷ word ∷ [])
word_takes keyword line word e = line_of_words line keyword (word ∷ []) (one_after keyword (words_of line) word e)

-- the keyword and a word, spaced, have that word after the keyword
pub word_again : (keyword line word : List ℕ) → length line ≤ 128 → list_all is_not_space keyword ≡ true → list_all is_not_space word ≡ true → line ≡ spaced (keyword ∷ word ∷ []) → word_after keyword (words_of line) ≡ Some word
word_again keyword line word short plain_keyword plain_word spelled =
    let plain : are_plain (keyword ∷ word ∷ []) ≡ true = and_from _ _ plain_keyword (and_from _ _ plain_word refl) in
    ap (word_after keyword) (words_of_line line keyword (word ∷ []) short plain spelled) ∙ rw (word_itself keyword) refl

-- ---- a keyword and five words

abbrev pub words_of_five : Five → List (List ℕ)
words_of_five five = five.first ∷ five.second ∷ five.third ∷ five.fourth ∷ five.fifth ∷ []

-- the words that are five
are_five : (words : List (List ℕ)) (five : Five) → five_words words ≡ Some five → words ≡ words_of_five five
are_five [] five e = absurd cc
are_five (a ∷ []) five e = absurd cc
are_five (a ∷ b ∷ []) five e = absurd cc
are_five (a ∷ b ∷ c ∷ []) five e = absurd cc
are_five (a ∷ b ∷ c ∷ d ∷ []) five e = absurd cc
are_five (a ∷ b ∷ c ∷ d ∷ f ∷ []) five e =
    let made : Five = record { first = a; second = b; third = c; fourth = d; fifth = f } in
    let same : made ≡ five = cc in ap words_of_five same
are_five (a ∷ b ∷ c ∷ d ∷ f ∷ g ∷ words) five e = absurd cc

-- a line with five words after the keyword has these six words
five_of : (keyword : List ℕ) (words : List (List ℕ)) (five : Five) → five_after keyword words ≡ Some five → words ≡ keyword ∷ words_of_five five
five_of keyword [] five e = absurd cc
five_of keyword (first ∷ words) five e =
    let t = some_if (bytes_eq first keyword) (five_words words) five e in
    ap₂ (λ (word : List ℕ) (rest : List (List ℕ)). word ∷ rest) (same_word first keyword t.0) (are_five words five t.1)

-- a line with five words after the keyword is the six, spaced
pub five_takes : (keyword line : List ℕ) (five : Five) → five_after keyword (words_of line) ≡ Some five → line ≡ spaced (keyword ∷ words_of_five five)
five_takes keyword line five e = line_of_words line keyword (words_of_five five) (five_of keyword (words_of line) five e)

-- the keyword and five words, spaced, have these five after the keyword
pub five_again : (keyword line : List ℕ) (five : Five) → length line ≤ 128 → are_plain (keyword ∷ words_of_five five) ≡ true → line ≡ spaced (keyword ∷ words_of_five five) → five_after keyword (words_of line) ≡ Some five
five_again keyword line five short plain spelled =
    ap (five_after keyword) (words_of_line line keyword (words_of_five five) short plain spelled) ∙ rw (word_itself keyword) refl
