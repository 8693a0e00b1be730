-- What tests of five words say of each.
use Rattle.std.proofs.Common.{◌≡◌, Bool, true, ◌&&◌}
use Rattle.std.proofs.lemmas.Bool.{and_parts}
use Rattle.bridge_config.specs.Limits.{is_name}
use Rattle.line_text.specs.Words.{Five}
use Rattle.line_text.specs.Numeral.{is_numeral}
use Rattle.bridge_config.specs.LineReading.{are_numerals, is_pair_form}

-- each of five tests passes
pub record AllFive (a b c d e : Bool) : Type 0 where
  pub first : a ≡ true
  pub second : b ≡ true
  pub third : c ≡ true
  pub fourth : d ≡ true
  pub fifth : e ≡ true

-- five tests that hold together hold each
pub all_five : (a b c d e : Bool) → (a && b && c && d && e) ≡ true → AllFive a b c d e
all_five a b c d e all =
    let four = and_parts (a && b && c && d) e all in
    let three = and_parts (a && b && c) d four.0 in
    let two = and_parts (a && b) c three.0 in
    let one = and_parts a b two.0 in
    record { first = one.0; second = one.1; third = two.1; fourth = three.1; fifth = four.1 }

abbrev pub AreNumerals : Five → Type 0
AreNumerals words =
    AllFive (is_numeral words.first) (is_numeral words.second) (is_numeral words.third) (is_numeral words.fourth) (is_numeral words.fifth)

-- five words that pass as numerals are numerals each
pub each_numeral : (words : Five) → are_numerals words ≡ true → AreNumerals words
each_numeral words all =
    all_five (is_numeral words.first) (is_numeral words.second) (is_numeral words.third) (is_numeral words.fourth) (is_numeral words.fifth) all

abbrev pub PairForm : Five → Type 0
PairForm words =
    AllFive (is_numeral words.first) (is_name words.second) (is_numeral words.third) (is_name words.fourth) (is_numeral words.fifth)

-- five words in a pair's form are a number, and a name and a number twice
pub pair_form : (words : Five) → is_pair_form words ≡ true → PairForm words
pair_form words all =
    all_five (is_numeral words.first) (is_name words.second) (is_numeral words.third) (is_name words.fourth) (is_numeral words.fifth) all
