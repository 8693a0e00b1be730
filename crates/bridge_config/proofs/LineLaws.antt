-- What a line of a keyword and one word states is spelled by it, and what it spells is read from it.
use Rattle.std.proofs.Common.{◌≡◌, ℕ, ◌^◌, ◌<◌, ◌≤◌, Bool, true, false, not, cond, List, [], ◌∷◌, length, Option, Some, None, Ok, Err, Result, refl, ap, subst, ◌∙◌, arith}
use Rattle.std.specs.Prelude.{codes}
use Rattle.std.specs.List.{list_all}
use Rattle.std.specs.Str.{bytes_eq}
use Rattle.std.specs.Fmt.{decimal}
use Rattle.std.proofs.lemmas.Bool.{not-false}
use Rattle.bridge_cards.specs.declared.scoring.Scoring.{Scoring}
use Rattle.bridge_cards.specs.declared.scoring.Scoring.TheVariants.{MatchPoints, Imps}
use Rattle.bridge_config.specs.declared.refused.ConfigFault.{ConfigFault}
use Rattle.bridge_config.specs.Limits.{is_name, is_date_form, is_date_within}
use Rattle.line_text.specs.Words.{spaced, words_of, word_after}
use Rattle.bridge_config.specs.Spelling.{scoring_word}
use Rattle.bridge_config.specs.LineReading.{form_at, range_at, within, name_in, date_in, scoring_in, number_in, name_line, date_line, scoring_line, number_line}
use Rattle.line_text.specs.Numeral.{is_numeral}
use Rattle.bridge_config.proofs.PassedTests.{ok_if, after_test, unless}
use Rattle.line_text.proofs.WordLaws.{same_word, is_not_space, word_takes, word_again}
use Rattle.bridge_config.proofs.PlainWords.{name_is_plain, date_is_plain}
use Rattle.bridge_config.proofs.NumeralLaws.{IsNumber, numeral_takes, numeral_again}
use Rattle.line_text.proofs.NumeralLaws.{decimal_is_plain, decimal_is_numeral}

-- a word that was read as a name is that name
name_word : (n : ℕ) (o : Option (List ℕ)) (name : List ℕ) → name_in n o ≡ Ok name → (o ≡ Some name) × (is_name name ≡ true)
name_word n None name e = absurd cc
name_word n (Some word) name e =
    let t = ok_if (is_name word) (form_at n) word name e in
    (ap (λ (w : List ℕ). Some w) t.1, subst (λ (w : List ℕ). is_name w ≡ true) t.1 t.0)

-- a line that was read as a name is the keyword and that name
pub name_takes : (n : ℕ) (keyword line name : List ℕ) → name_line n keyword line ≡ Ok name → (line ≡ spaced (keyword ∷ name ∷ [])) × (is_name name ≡ true)
name_takes n keyword line name read =
    let t = name_word n (word_after keyword (words_of line)) name read in
    (word_takes keyword line name t.0, t.1)

-- a line of the keyword and a name is read as that name
pub name_again : (n : ℕ) (keyword line name : List ℕ) → length line ≤ 128 → list_all is_not_space keyword ≡ true → is_name name ≡ true → line ≡ spaced (keyword ∷ name ∷ []) → name_line n keyword line ≡ Ok name
name_again n keyword line name short plain named spelled =
    ap (name_in n) (word_again keyword line name short plain (name_is_plain name named) spelled) ∙ rw named refl

-- a word that was read as a date is that date, in form and within the limits
date_word : (n : ℕ) (o : Option (List ℕ)) (date : List ℕ) → date_in n o ≡ Ok date → (o ≡ Some date) × (is_date_form date ≡ true) × (is_date_within date ≡ true)
date_word n None date e = absurd cc
date_word n (Some word) date e =
    let form = unless (not (is_date_form word)) (form_at n) (cond (is_date_within word) (Ok word) (Err (range_at n))) date e in
    let t = ok_if (is_date_within word) (range_at n) word date form.1 in
    (ap (λ (w : List ℕ). Some w) t.1, subst (λ (w : List ℕ). is_date_form w ≡ true) t.1 (not-false (is_date_form word) form.0), subst (λ (w : List ℕ). is_date_within w ≡ true) t.1 t.0)

-- a line that was read as a date is `DATE` and that date
pub date_takes : (n : ℕ) (line date : List ℕ) → date_line n line ≡ Ok date → (line ≡ spaced (codes "DATE" ∷ date ∷ [])) × (is_date_form date ≡ true) × (is_date_within date ≡ true)
date_takes n line date read =
    let t = date_word n (word_after (codes "DATE") (words_of line)) date read in
    (word_takes (codes "DATE") line date t.0, t.1, t.2)

-- a line of `DATE` and a date is read as that date
pub date_again : (n : ℕ) (line date : List ℕ) → length line ≤ 128 → is_date_form date ≡ true → is_date_within date ≡ true → line ≡ spaced (codes "DATE" ∷ date ∷ []) → date_line n line ≡ Ok date
date_again n line date short form in_range spelled =
    ap (date_in n) (word_again (codes "DATE") line date short refl (date_is_plain date form) spelled) ∙ rw (form, in_range) refl

-- the scoring of a word, by the tests whether it is `MP` and whether it is `IMP`
abbrev scoring_by : Bool → Bool → ConfigFault → Result Scoring ConfigFault
scoring_by points imps d = cond points (Ok MatchPoints) (cond imps (Ok Imps) (Err d))

-- matchpoints come of the first test
by_points : (points imps : Bool) (d : ConfigFault) → scoring_by points imps d ≡ Ok MatchPoints → points ≡ true
by_points true imps d e = refl
by_points false true d e = absurd cc
by_points false false d e = absurd cc

-- IMPs come of the second test
by_imps : (points imps : Bool) (d : ConfigFault) → scoring_by points imps d ≡ Ok Imps → imps ≡ true
by_imps true imps d e = absurd cc
by_imps false true d e = refl
by_imps false false d e = absurd cc

-- a word that was read as a scoring is its word
scoring_word_in : (n : ℕ) (o : Option (List ℕ)) (scoring : Scoring) → scoring_in n o ≡ Ok scoring → o ≡ Some (scoring_word scoring)
scoring_word_in n None scoring e = absurd cc
scoring_word_in n (Some word) MatchPoints e =
    ap (λ (w : List ℕ). Some w) (same_word word (codes "MP") (by_points (bytes_eq word (codes "MP")) (bytes_eq word (codes "IMP")) (form_at n) e))
scoring_word_in n (Some word) Imps e =
    ap (λ (w : List ℕ). Some w) (same_word word (codes "IMP") (by_imps (bytes_eq word (codes "MP")) (bytes_eq word (codes "IMP")) (form_at n) e))

-- a line that was read as a scoring is `SCORING` and the scoring's word
pub scoring_takes : (n : ℕ) (line : List ℕ) (scoring : Scoring) → scoring_line n line ≡ Ok scoring → line ≡ spaced (codes "SCORING" ∷ scoring_word scoring ∷ [])
scoring_takes n line scoring read =
    word_takes (codes "SCORING") line (scoring_word scoring) (scoring_word_in n (word_after (codes "SCORING") (words_of line)) scoring read)

-- a line of `SCORING` and a scoring's word is read as that scoring
pub scoring_again : (n : ℕ) (line : List ℕ) (scoring : Scoring) → length line ≤ 128 → line ≡ spaced (codes "SCORING" ∷ scoring_word scoring ∷ []) → scoring_line n line ≡ Ok scoring
scoring_again n line MatchPoints short spelled =
    ap (scoring_in n) (word_again (codes "SCORING") line (codes "MP") short refl refl spelled)
scoring_again n line Imps short spelled =
    ap (scoring_in n) (word_again (codes "SCORING") line (codes "IMP") short refl refl spelled)

-- there is a word, and it is the number within its limits
record IsNumberWord (low high value : ℕ) (o : Option (List ℕ)) : Type 0 where
  word : List ℕ
  there : o ≡ Some word
  number : IsNumber low high value word

-- a word that was read as a number is what that number is written as
number_word : (n low high : ℕ) (o : Option (List ℕ)) (value : ℕ) → high < 2 ^ 64 → number_in n low high o ≡ Ok value → IsNumberWord low high value o
number_word n low high None value fits e = absurd cc
number_word n low high (Some word) value fits e =
    let t = after_test (is_numeral word) (form_at n) (within n low high word) value e in
    record { word = word; there = refl; number = numeral_takes n low high word value fits t.0 t.1 }

-- a line that was read as a number is the keyword and that number, within its limits
pub number_takes : (n low high : ℕ) (keyword line : List ℕ) (value : ℕ) → high < 2 ^ 64 → number_line n keyword low high line ≡ Ok value → (line ≡ spaced (keyword ∷ decimal value ∷ [])) × (low ≤ value) × (value ≤ high)
number_takes n low high keyword line value fits read =
    let t = number_word n low high (word_after keyword (words_of line)) value fits read in
    let spelled : line ≡ spaced (keyword ∷ t.word ∷ []) = word_takes keyword line t.word t.there in
    (spelled ∙ ap (λ (word : List ℕ). spaced (keyword ∷ word ∷ [])) t.number.spelled, t.number.limits.0, t.number.limits.1)

-- a line of the keyword and a number within its limits is read as that number
pub number_again : (n low high : ℕ) (keyword line : List ℕ) (value : ℕ) → high < 2 ^ 64 → length line ≤ 128 → list_all is_not_space keyword ≡ true → low ≤ value → value ≤ high → line ≡ spaced (keyword ∷ decimal value ∷ []) → number_line n keyword low high line ≡ Ok value
number_again n low high keyword line value fits short plain least most spelled =
    let small : value < 2 ^ 64 = omega arith in
    ap (number_in n low high) (word_again keyword line (decimal value) short plain (decimal_is_plain value small) spelled)
    ∙ rw (decimal_is_numeral value small) (numeral_again n low high value fits (least, most))
