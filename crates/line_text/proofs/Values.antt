-- What a numeral's digits are read as.
use Rattle.std.proofs.Common.{◌≡◌, ℕ, ◌^◌, ◌<◌, true, List, length, subst, arith, rules, inl, inr}
use Rattle.std.specs.Prelude.{Option, Result, Ok, Err, MatchOption}
use Rattle.std.specs.List.{list_all}
use Rattle.std.specs.Result.{OkIff, result_ok}
use Rattle.std.specs.Char.{is_ascii_digit}
use Rattle.std.specs.Str.Parse.{ParsesUnsigned, digits_value}
use Rattle.std.proofs.lemmas.Bool.{cases_lt}
use Rattle.std.proofs.lemmas.Str.Parse.{IsNumeralModel, numerals_by_value, parse_digits}
use Rattle.line_text.specs.Numeral.{is_numeral}
use Rattle.line_text.proofs.Ascii.{numeral_digits, numeral_length}

-- lists of digits are numerals as std's lemmas take them, each with its value
pub digits_read : IsNumeralModel (λ ds. list_all is_ascii_digit ds ≡ true) (digits_value 10)
digits_read = numerals_by_value (λ ds. list_all is_ascii_digit ds ≡ true) (search rules)

-- digits are read as their value, or that is above 4,294,967,295
value_or_more : {E : Type 0} (bs : List ℕ) (r : Result ℕ E) → 0 < length bs → OkIff r ((0 < length bs) × (digits_value 10 bs < 2 ^ 32)) (digits_value 10 bs) → MatchOption (result_ok r) (4294967295 < digits_value 10 bs) (λ value. value ≡ digits_value 10 bs)
value_or_more bs (Ok value) some reads = reads.1
value_or_more bs (Err e) some reads = elim (cases_lt (digits_value 10 bs) 4294967296) [
  | inl less ↦ absurd (reads (some, omega (arith, less)))
  | inr from ↦ omega (arith, from)
]

-- what parse gives of a numeral
pub parsed_value : {E : Type 0} (bs text : List ℕ) (r : Result ℕ E) (o : Option ℕ) → text ≡ bs → is_numeral bs ≡ true → ParsesUnsigned 32 10 text r → o ≡ result_ok r → MatchOption o (4294967295 < digits_value 10 bs) (λ value. value ≡ digits_value 10 bs)
parsed_value {E} bs text r o same numeral parses is =
    let parses_bs = subst (λ (t : List ℕ). ParsesUnsigned 32 10 t r) same parses in
    rw is (value_or_more bs r (numeral_length bs numeral) (parse_digits digits_read 32 bs r parses_bs (numeral_digits bs numeral)))
