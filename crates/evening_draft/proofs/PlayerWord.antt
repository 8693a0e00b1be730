-- The word for a player is a name.
use Rattle.std.proofs.Common.{◌≡◌, ℕ, ◌+◌, ◌<◌, ◌≤◌, Bool, true, false, not, leb, eqb, codes, List, ◌++◌, length, ap, refl, ◌∙◌, arith}
use Rattle.std.specs.Char.{is_ascii_digit}
use Rattle.std.specs.Fmt.{decimal}
use Rattle.std.specs.List.{list_all}
use Rattle.std.proofs.lemmas.Bool.{and_from}
use Rattle.std.proofs.lemmas.Bool.Decides.{nat_tests}
use Rattle.std.proofs.lemmas.Fmt.{length-decimal-le}
use Rattle.std.proofs.lemmas.List.{length-append}
use Rattle.std.proofs.lemmas.List.Folds.{list_all-append}
use Rattle.line_text.proofs.Ascii.{list_all_weaker, numeral_digits}
use Rattle.line_text.proofs.NumeralLaws.{decimal_is_numeral}
use Rattle.bridge_config.specs.Limits.{is_name_byte, is_name}
use Rattle.evening_draft.specs.AsciiName.{player_letter, player_word}

digit_is_of_name : (byte : ℕ) → is_ascii_digit byte ≡ true → is_name_byte byte ≡ true
digit_is_of_name byte digit = grind (arith, nat_tests)

some_and_few : (n : ℕ) → 0 < n → n ≤ 24 → (leb n 24 ≡ true) × (not (eqb n 0) ≡ true)
some_and_few n some few = (grind (arith, nat_tests), grind (arith, nat_tests))

-- three texts of a name's bytes, one after another
joined : (front middle last : List ℕ) → list_all is_name_byte front ≡ true → list_all is_name_byte middle ≡ true →
    list_all is_name_byte last ≡ true → 0 < length front → (length front + length middle) + length last ≤ 24 →
    is_name ((front ++ middle) ++ last) ≡ true
joined front middle last of_front of_middle of_last some few =
    let all : list_all is_name_byte ((front ++ middle) ++ last) ≡ true =
    list_all-append is_name_byte (front ++ middle) last
    ∙ and_from _ _ (list_all-append is_name_byte front middle ∙ and_from _ _ of_front of_middle) of_last in
    let count : length ((front ++ middle) ++ last) ≡ (length front + length middle) + length last =
    length-append (front ++ middle) last ∙ ap (λ (n : ℕ). n + length last) (length-append front middle) in
    let tests = some_and_few (length ((front ++ middle) ++ last)) (omega arith) (omega arith) in
    and_from _ _ (and_from _ _ all tests.1) tests.0

-- the letter behind the number
letter : (first : Bool) → (list_all is_name_byte (player_letter first) ≡ true) × (length (player_letter first) ≡ 1)
letter true = (refl, refl)
letter false = (refl, refl)

pub word_is_name : (pair : ℕ) (first : Bool) → pair < 256 → is_name (player_word pair first) ≡ true
word_is_name pair first small =
    let digits : list_all is_name_byte (decimal pair) ≡ true =
    list_all_weaker is_ascii_digit is_name_byte digit_is_of_name (decimal pair)
    (numeral_digits (decimal pair) (decimal_is_numeral pair (omega arith))) in
    let few : length (decimal pair) ≤ 3 = length-decimal-le 3 pair (omega arith) (omega arith) (omega arith) in
    let last = letter first in
    joined (codes "Player") (decimal pair) (player_letter first) refl digits last.0 (omega arith)
    (let one : length (player_letter first) ≡ 1 = last.1 in
    let six : length (codes "Player") ≡ 6 = refl in omega arith)
