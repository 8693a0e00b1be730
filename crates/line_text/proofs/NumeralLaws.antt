-- A numeral is what its number is written as.
use Rattle.std.proofs.Common.{◌≡◌, ℕ, ◌^◌, ◌<◌, true, not, eqb, ◌&&◌, ◌||◌, List, length, get_or, inl, inr, refl, arith}
use Rattle.std.specs.List.{list_all}
use Rattle.std.specs.Char.{is_ascii_digit}
use Rattle.std.specs.Fmt.{decimal}
use Rattle.std.specs.Str.Parse.{digits_value}
use Rattle.std.proofs.lemmas.Bool.{and_parts, and_from, or_cases, or_left, or_right, not-true, not_from_false, eqb-true, eqb-false, ne_eqb, cases_eq}
use Rattle.std.proofs.lemmas.Fmt.{decimal-digits_value, digits_decimal, decimal_nonempty, first_decimal, decimal_digit}
use Rattle.line_text.specs.Numeral.{is_numeral}
use Rattle.line_text.proofs.Values.{digits_read}
use Rattle.line_text.proofs.PlainWords.{digits_are_plain}
use Rattle.line_text.proofs.WordLaws.{is_not_space}

-- a numeral of a number below 2^64 is what that number is written as
pub numeral_is_decimal : (word : List ℕ) → is_numeral word ≡ true → digits_value 10 word < 2 ^ 64 → decimal (digits_value 10 word) ≡ word
numeral_is_decimal word form fits =
    let f = and_parts (list_all is_ascii_digit word && not (eqb (length word) 0)) (eqb (length word) 1 || not (eqb (get_or word 0 0) 48)) form in
    let g = and_parts (list_all is_ascii_digit word) (not (eqb (length word) 0)) f.0 in
    let ne : length word ≡ 0 → ⊥ = eqb-false (length word) 0 (not-true (eqb (length word) 0) g.1) in
    let nonempty : 0 < length word = omega arith in
    let lone : get_or word 0 0 ≡ 48 → length word ≡ 1 =
    λ z. elim (or_cases (eqb (length word) 1) (not (eqb (get_or word 0 0) 48)) f.1) [
      | inl one ↦ eqb-true (length word) 1 one
      | inr fails ↦ absurd (eqb-false (get_or word 0 0) 48 (not-true (eqb (get_or word 0 0) 48) fails) z)
    ] in
    decimal-digits_value digits_read word g.0 nonempty lone fits

-- what a number is written as has no space
pub decimal_is_plain : (value : ℕ) → value < 2 ^ 64 → list_all is_not_space (decimal value) ≡ true
decimal_is_plain value fits = digits_are_plain (decimal value) (digits_decimal digits_read value fits)

-- what a number is written as is a numeral
pub decimal_is_numeral : (value : ℕ) → value < 2 ^ 64 → is_numeral (decimal value) ≡ true
decimal_is_numeral value fits =
    let some : 0 < length (decimal value) = decimal_nonempty value fits in
    let front : (list_all is_ascii_digit (decimal value) && not (eqb (length (decimal value)) 0)) ≡ true =
    and_from (list_all is_ascii_digit (decimal value)) (not (eqb (length (decimal value)) 0)) (digits_decimal digits_read value fits) (not_from_false (eqb (length (decimal value)) 0) (ne_eqb (length (decimal value)) 0 (λ none. omega arith))) in
    let first : (eqb (length (decimal value)) 1 || not (eqb (get_or (decimal value) 0 0) 48)) ≡ true =
    elim (cases_eq value 0) [
      | inl none ↦ or_left (eqb (length (decimal value)) 1) (not (eqb (get_or (decimal value) 0 0) 48)) (rw (none, decimal_digit 0 (omega arith)) refl)
      | inr positive ↦
          let high : 48 < get_or (decimal value) 0 0 = first_decimal value (omega arith) fits in
          or_right (eqb (length (decimal value)) 1) (not (eqb (get_or (decimal value) 0 0) 48)) (not_from_false (eqb (get_or (decimal value) 0 0) 48) (ne_eqb (get_or (decimal value) 0 0) 48 (λ same. omega arith)))
    ] in
    and_from (list_all is_ascii_digit (decimal value) && not (eqb (length (decimal value)) 0)) (eqb (length (decimal value)) 1 || not (eqb (get_or (decimal value) 0 0) 48)) front first
