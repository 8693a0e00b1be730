-- Numerals are ASCII, and ASCII is text.
use Rattle.std.proofs.Common.{◌≡◌, ℕ, zero, suc, ◌<◌, Bool, true, leb, List, [], ◌∷◌, length, refl, arith}
use Rattle.std.specs.Prelude.{IsOk, Result, Ok, Err, MatchResult}
use Rattle.std.specs.List.{list_all}
use Rattle.std.specs.Char.{is_ascii, is_ascii_digit}
use Rattle.std.specs.Str.{IsAscii, IsUtf8}
use Rattle.std.proofs.lemmas.Bool.{and_parts, and_from, leb-true, lt-ltb, ltb-true}
use Rattle.std.proofs.lemmas.Str.{IsUtf8-from_ascii}
use Rattle.line_text.specs.Numeral.{is_numeral}

-- what passes one test passes a weaker one
pub list_all_weaker : (p q : ℕ → Bool) → ((b : ℕ) → p b ≡ true → q b ≡ true) → (bytes : List ℕ) → list_all p bytes ≡ true → list_all q bytes ≡ true
list_all_weaker p q weaker [] all = refl
list_all_weaker p q weaker (b ∷ bytes) all =
    let parts = and_parts (p b) (list_all p bytes) all in
    and_from (q b) (list_all q bytes) (weaker b parts.0) (list_all_weaker p q weaker bytes parts.1)

-- a numeral is digits
pub numeral_digits : (word : List ℕ) → is_numeral word ≡ true → list_all is_ascii_digit word ≡ true
numeral_digits word numeral = (and_parts _ _ (and_parts _ _ numeral).0).0

-- a numeral has a digit at least
pub numeral_length : (word : List ℕ) → is_numeral word ≡ true → 0 < length word
numeral_length word numeral =
    elim word as (λ w. is_numeral w ≡ true → 0 < length w) [ [] ↦ λ none. cc | b ∷ bytes ↦ λ some. omega arith ] numeral

pub digit_is_ascii : (b : ℕ) → is_ascii_digit b ≡ true → is_ascii b ≡ true
digit_is_ascii b digit = lt-ltb b 128 (omega (arith, leb-true b 57 (and_parts (leb 48 b) (leb b 57) digit).1))

pub numeral_is_ascii : (word : List ℕ) → is_numeral word ≡ true → list_all is_ascii word ≡ true
numeral_is_ascii word numeral = list_all_weaker is_ascii_digit is_ascii digit_is_ascii word (numeral_digits word numeral)

-- bytes that pass the test for ASCII are ASCII, place by place
all_are_ascii : (bytes : List ℕ) → list_all is_ascii bytes ≡ true → IsAscii bytes
all_are_ascii [] all i = omega arith
all_are_ascii (b ∷ bytes) all zero = ltb-true b 128 (and_parts _ _ all).0
all_are_ascii (b ∷ bytes) all (suc i) = all_are_ascii bytes (and_parts _ _ all).1 i

-- a text of ASCII bytes is UTF-8, so reading it as one succeeds
pub ascii_is_text : {T E : Type 0} (bytes : List ℕ) (r : Result T E) (P : T → Type 0) (Q : E → Type 0) → MatchResult r P (λ e. (¬ (IsUtf8 bytes)) × Q e) → list_all is_ascii bytes ≡ true → IsOk r
ascii_is_text bytes (Ok text) P Q read all = refl
ascii_is_text bytes (Err e) P Q read all = absurd (read.0 (IsUtf8-from_ascii bytes (all_are_ascii bytes all)))
