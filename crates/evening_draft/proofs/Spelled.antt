-- The text of a configuration spells it.
use Rattle.std.proofs.Common.{◌≡◌, ◌≢◌, ℕ, zero, suc, ◌+◌, ◌-◌, ◌*◌, ◌^◌, ◌<◌, ◌≤◌, Bool, true, List, [], ◌∷◌, ◌++◌, length, get_or, take, false, cond, refl, ap, ◌∙◌, append_assoc, length-append, arith}
use Rattle.std.specs.Prelude.{All, nat_le, ◌==◌}
use Rattle.std.specs.Fmt.{decimal}
use Rattle.std.specs.List.{list_all}
use Rattle.std.specs.Char.{is_ascii_digit}
use Rattle.std.specs.Str.Lines.{lines, strip_carriage_return}
use Rattle.std.proofs.lemmas.Bool.{and_parts, and_from}
use Rattle.std.proofs.lemmas.Bool.Decides.{nat_tests}
use Rattle.std.proofs.lemmas.List.Elements.{All-nil, All-cons, All-head, All-tail}
use Rattle.std.proofs.lemmas.List.Folds.{list_all-append}
use Rattle.line_text.proofs.Ascii.{list_all_weaker, numeral_digits}
use Rattle.line_text.proofs.NumeralLaws.{decimal_is_numeral}
use Rattle.line_text.proofs.Texts.{lines_first}
use Rattle.line_text.specs.Words.{spaced}
use Rattle.evening_draft.specs.ConfigText.{ended, text_of}

-- the byte is no control character
abbrev pub is_shown : ℕ → Bool
is_shown byte = nat_le 32 byte

-- a line of at most so many bytes, without control characters
pub record IsLine (most : ℕ) (line : List ℕ) : Type 0 where
  pub short : length line ≤ most
  pub shown : list_all is_shown line ≡ true

-- words without control characters make such a line
words_shown : (words : List (List ℕ)) → list_all (list_all is_shown) words ≡ true → list_all is_shown (spaced words) ≡ true
words_shown [] all = refl
words_shown (word ∷ []) all = (and_parts _ _ all).0
words_shown (word ∷ next ∷ words) all =
    let parts = and_parts (list_all is_shown word) _ all in
    list_all-append is_shown word (32 ∷ spaced (next ∷ words)) ∙ and_from _ _ parts.0 (words_shown (next ∷ words) parts.1)

-- the room of words: their bytes, and a blank for each
abbrev pub room : List (List ℕ) → ℕ
room [] = 0
room (word ∷ words) = (length word + 1) + room words

words_length : (words : List (List ℕ)) → length (spaced words) ≤ room words
words_length [] = omega arith
words_length (word ∷ []) = let all : room (word ∷ []) ≡ (length word + 1) + 0 = refl in omega arith
words_length (word ∷ next ∷ words) =
    let rest : length (spaced (next ∷ words)) ≤ room (next ∷ words) = words_length (next ∷ words) in
    let whole : length (spaced (word ∷ next ∷ words)) ≡ length word + suc (length (spaced (next ∷ words))) =
    length-append word (32 ∷ spaced (next ∷ words)) in
    let all : room (word ∷ next ∷ words) ≡ (length word + 1) + room (next ∷ words) = refl in
    omega arith

pub line_of_words : (most : ℕ) (words : List (List ℕ)) → list_all (list_all is_shown) words ≡ true →
    room words ≤ most → IsLine most (spaced words)
line_of_words most words shown short =
    let fits : length (spaced words) ≤ room words = words_length words in
    record { short = omega arith; shown = words_shown words shown }

digit_shown : (byte : ℕ) → is_ascii_digit byte ≡ true → is_shown byte ≡ true
digit_shown byte digit = grind (arith, nat_tests)

pub number_shown : (n : ℕ) → n < 2 ^ 64 → list_all is_shown (decimal n) ≡ true
number_shown n fits =
    list_all_weaker is_ascii_digit is_shown digit_shown (decimal n) (numeral_digits (decimal n) (decimal_is_numeral n fits))

-- a line without control characters has no line feed in it
no_line_feed : (line : List ℕ) → list_all is_shown line ≡ true → All (λ byte. byte ≢ 10) line
no_line_feed [] shown = All-nil (λ byte. byte ≢ 10)
no_line_feed (byte ∷ line) shown =
    let parts = and_parts (is_shown byte) _ shown in
    All-cons (λ byte. byte ≢ 10) byte line (grind (arith, nat_tests)) (no_line_feed line parts.1)

-- nor a carriage return at its end
no_return : (line : List ℕ) → list_all is_shown line ≡ true → (k : ℕ) → (get_or line k 0 == 13) ≡ true → ⊥
no_return [] shown k is = grind (arith, nat_tests)
no_return (byte ∷ line) shown zero is = let parts = and_parts (is_shown byte) _ shown in grind (arith, nat_tests)
no_return (byte ∷ line) shown (suc k) is = no_return line (and_parts (is_shown byte) _ shown).1 k is

kept : (line : List ℕ) → list_all is_shown line ≡ true → strip_carriage_return line ≡ line
kept line shown =
    elim (get_or line (length line - 1) 0 == 13) as (λ b. ((get_or line (length line - 1) 0 == 13) ≡ b) → cond b (take (length line - 1) line) line ≡ line) [
      | true ↦ λ is. absurd (no_return line shown (length line - 1) is)
      | false ↦ λ is. refl
    ] refl

-- lines that are written are read
pub lines_again : (most : ℕ) (texts : List (List ℕ)) → All (IsLine most) texts → lines (text_of texts) ≡ texts
unfolding ended
lines_again most [] all = refl
lines_again most (line ∷ texts) all =
    let here : IsLine most line = All-head (IsLine most) line texts all in
    lines_first (text_of (line ∷ texts)) line (text_of texts) (append_assoc line (10 ∷ []) (text_of texts))
    (no_line_feed line here.shown)
    ∙ ap (λ first. first ∷ lines (text_of texts)) (kept line here.shown)
    ∙ ap (λ rest. line ∷ rest) (lines_again most texts (All-tail (IsLine most) line texts all))

-- how long they are
pub text_length : (most : ℕ) (texts : List (List ℕ)) → All (IsLine most) texts →
    length (text_of texts) ≤ (most + 1) * length texts
unfolding ended
text_length most [] all = omega arith
text_length most (line ∷ texts) all =
    let here : IsLine most line = All-head (IsLine most) line texts all in
    let short : length line ≤ most = here.short in
    let rest : length (text_of texts) ≤ (most + 1) * length texts = text_length most texts (All-tail (IsLine most) line texts all) in
    let first : length (line ++ 10 ∷ []) ≡ length line + 1 = length-append line (10 ∷ []) in
    let whole : length (text_of (line ∷ texts)) ≡ length (line ++ 10 ∷ []) + length (text_of texts) =
    length-append (line ++ 10 ∷ []) (text_of texts) in
    let more : (most + 1) * length (line ∷ texts) ≡ (most + 1) + (most + 1) * length texts = omega arith in
    omega arith

-- a shorter line is one of at most more bytes
longer : (few most : ℕ) (line : List ℕ) → few ≤ most → IsLine few line → IsLine most line
longer few most line less is = record { short = let short = is.short in omega arith; shown = is.shown }

pub all_longer : (few most : ℕ) (texts : List (List ℕ)) → few ≤ most → All (IsLine few) texts → All (IsLine most) texts
all_longer few most texts less all = λ k d within. longer few most (get_or texts k d) less (all k d within)
