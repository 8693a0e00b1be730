-- A number read from a numeral is within its limits, and is read from what it is written as.
use Rattle.std.proofs.Common.{◌≡◌, ℕ, ◌^◌, ◌<◌, ◌≤◌, true, leb, List, Ok, sym, ap, subst, ◌∙◌, arith}
use Rattle.std.specs.Fmt.{decimal}
use Rattle.std.specs.Str.Parse.{digits_value}
use Rattle.std.proofs.lemmas.Bool.{and_parts, and_from, leb-true, le-leb}
use Rattle.std.proofs.lemmas.Fmt.{digits_value-decimal}
use Rattle.bridge_movement.specs.Shape.{IsBetween}
use Rattle.bridge_config.specs.Limits.{is_between}
use Rattle.bridge_config.specs.LineReading.{within, range_at}
use Rattle.bridge_config.proofs.PassedTests.{ok_if}
use Rattle.line_text.specs.Numeral.{is_numeral}
use Rattle.line_text.proofs.Values.{digits_read}
use Rattle.line_text.proofs.NumeralLaws.{numeral_is_decimal}

-- the word is what the number is written as, and the number is within its limits
pub record IsNumber (low high value : ℕ) (word : List ℕ) : Type 0 where
  pub spelled : word ≡ decimal value
  pub limits : IsBetween low high value

-- a numeral within limits is what its number is written as
pub numeral_takes : (n low high : ℕ) (word : List ℕ) (value : ℕ) → high < 2 ^ 64 → is_numeral word ≡ true → within n low high word ≡ Ok value → IsNumber low high value word
numeral_takes n low high word value fits form read =
    let t = ok_if (is_between low high (digits_value 10 word)) (range_at n) (digits_value 10 word) value read in
    let b = and_parts (leb low (digits_value 10 word)) (leb (digits_value 10 word) high) t.0 in
    let least : low ≤ digits_value 10 word = leb-true low (digits_value 10 word) b.0 in
    let most : digits_value 10 word ≤ high = leb-true (digits_value 10 word) high b.1 in
    let back : decimal (digits_value 10 word) ≡ word = numeral_is_decimal word form (omega arith) in
    record { spelled = sym back ∙ ap decimal t.1; limits = subst (λ (v : ℕ). IsBetween low high v) t.1 (least, most) }

-- a number within limits is read from what it is written as
pub numeral_again : (n low high value : ℕ) → high < 2 ^ 64 → IsBetween low high value → within n low high (decimal value) ≡ Ok value
numeral_again n low high value fits limits =
    let back : digits_value 10 (decimal value) ≡ value = digits_value-decimal digits_read value (omega arith) in
    let between : is_between low high (digits_value 10 (decimal value)) ≡ true =
    and_from (leb low (digits_value 10 (decimal value))) (leb (digits_value 10 (decimal value)) high) (le-leb low (digits_value 10 (decimal value)) (omega arith)) (le-leb (digits_value 10 (decimal value)) high (omega arith)) in
    rw between (ap (λ (v : ℕ). Ok v) back)
