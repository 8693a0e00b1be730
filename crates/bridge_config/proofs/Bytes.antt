-- A test that each letter, digit and dot passes is passed by the bytes of names and dates.
use Rattle.std.proofs.Common.{◌≡◌, ℕ, ◌<◌, ◌≤◌, Bool, true, not, leb, eqb, ◌&&◌, ◌||◌, ◌==◌, List, ◌∷◌, ◌++◌, length, get_or, take, drop, slice_range, refl, sym, ap, ◌∙◌, arith, inl, inr}
use Rattle.std.specs.List.{list_all}
use Rattle.std.specs.Char.{is_ascii, is_ascii_digit, is_ascii_alphanumeric}
use Rattle.std.specs.Int.{is_in_range}
use Rattle.std.proofs.lemmas.Bool.{and_parts, and_from, eqb-true, leb-true, lt-ltb, or_cases}
use Rattle.std.proofs.lemmas.List.{take-append-drop}
use Rattle.std.proofs.lemmas.List.Folds.{list_all-append, drop_split}
use Rattle.std.proofs.Math.Seq.{drop-cons}
use Rattle.bridge_config.specs.Limits.{is_name_byte, is_name, is_date_form}
use Rattle.line_text.proofs.Ascii.{list_all_weaker, digit_is_ascii}

-- a test that each byte of a name passes is passed by a name
pub name_passes : (q : ℕ → Bool) → ((b : ℕ) → is_name_byte b ≡ true → q b ≡ true) → (name : List ℕ) → is_name name ≡ true → list_all q name ≡ true
name_passes q weaker name named =
    let a = and_parts (list_all is_name_byte name && not (eqb (length name) 0)) (leb (length name) 24) named in
    list_all_weaker is_name_byte q weaker name (and_parts (list_all is_name_byte name) (not (eqb (length name) 0)) a.0).0

-- digits, a dot, digits, a dot and digits
parts_pass : (q : ℕ → Bool) → ((b : ℕ) → is_ascii_digit b ≡ true → q b ≡ true) → q 46 ≡ true → (year month day : List ℕ) → list_all is_ascii_digit year ≡ true → list_all is_ascii_digit month ≡ true → list_all is_ascii_digit day ≡ true → list_all q (year ++ (46 ∷ (month ++ (46 ∷ day)))) ≡ true
parts_pass q digit dot year month day of_year of_month of_day =
    let pass = list_all_weaker is_ascii_digit q digit in
    let rest : list_all q (month ++ (46 ∷ day)) ≡ true =
    list_all-append q month (46 ∷ day) ∙ and_from _ _ (pass month of_month) (and_from _ _ dot (pass day of_day)) in
    list_all-append q year (46 ∷ (month ++ (46 ∷ day))) ∙ and_from _ _ (pass year of_year) (and_from _ _ dot rest)

-- a date is its year, a dot, its month, a dot and its day
date_parts : (date : List ℕ) → length date ≡ 10 → get_or date 4 0 ≡ 46 → get_or date 7 0 ≡ 46 → date ≡ take 4 date ++ (46 ∷ (slice_range date 5 7 ++ (46 ∷ drop 8 date)))
date_parts date long first second =
    let at4 : drop 4 date ≡ get_or date 4 0 ∷ drop 5 date = drop-cons date 4 0 (omega arith) in
    let at7 : drop 7 date ≡ get_or date 7 0 ∷ drop 8 date = drop-cons date 7 0 (omega arith) in
    let middle : drop 5 date ≡ slice_range date 5 7 ++ drop 7 date = drop_split date 5 7 (omega arith) in
    let whole : take 4 date ++ drop 4 date ≡ date = take-append-drop 4 date in
    let last : drop 7 date ≡ 46 ∷ drop 8 date = cc in
    let front : drop 4 date ≡ 46 ∷ (slice_range date 5 7 ++ (46 ∷ drop 8 date)) = cc in
    sym whole ∙ ap (λ (rest : List ℕ). take 4 date ++ rest) front

-- a test that digits and dots pass is passed by a date
pub date_passes : (q : ℕ → Bool) → ((b : ℕ) → is_ascii_digit b ≡ true → q b ≡ true) → q 46 ≡ true → (date : List ℕ) → is_date_form date ≡ true → list_all q date ≡ true
date_passes q digit dot date form =
    let a = and_parts _ _ form in
    let b = and_parts _ _ a.0 in
    let c = and_parts _ _ b.0 in
    let d = and_parts _ _ c.0 in
    let e = and_parts _ _ d.0 in
    let parts = date_parts date (eqb-true (length date) 10 e.0) (eqb-true (get_or date 4 0) 46 e.1) (eqb-true (get_or date 7 0) 46 d.1) in
    ap (list_all q) parts ∙ parts_pass q digit dot (take 4 date) (slice_range date 5 7) (drop 8 date) c.1 b.1 a.1

pub name_length : (name : List ℕ) → is_name name ≡ true → length name ≤ 24
name_length name named = leb-true (length name) 24 (and_parts _ _ named).1

pub date_length : (date : List ℕ) → is_date_form date ≡ true → length date ≡ 10
date_length date form =
    eqb-true (length date) 10 (and_parts _ _ (and_parts _ _ (and_parts _ _ (and_parts _ _ (and_parts _ _ form).0).0).0).0).0

-- ---- ASCII

-- a byte of a range below 128 is ASCII
in_range_is_ascii : (low high b : ℕ) → high < 128 → is_in_range low high b ≡ true → is_ascii b ≡ true
in_range_is_ascii low high b below within =
    lt-ltb b 128 (omega (arith, below, leb-true b high (and_parts (leb low b) (leb b high) within).1))

alphanumeric_is_ascii : (b : ℕ) → is_ascii_alphanumeric b ≡ true → is_ascii b ≡ true
alphanumeric_is_ascii b passes =
    elim (or_cases (is_in_range 48 57 b || is_in_range 65 90 b) (is_in_range 97 122 b) passes) [
      | inl ab ↦ elim (or_cases (is_in_range 48 57 b) (is_in_range 65 90 b) ab) [
        | inl digit ↦ in_range_is_ascii 48 57 b (omega arith) digit
        | inr upper ↦ in_range_is_ascii 65 90 b (omega arith) upper
      ]
      | inr lower ↦ in_range_is_ascii 97 122 b (omega arith) lower
    ]

name_byte_is_ascii : (b : ℕ) → is_name_byte b ≡ true → is_ascii b ≡ true
name_byte_is_ascii b passes =
    elim (or_cases (is_ascii_alphanumeric b || b == 46 || b == 45) (b == 95) passes) [
      | inl abc ↦ elim (or_cases (is_ascii_alphanumeric b || b == 46) (b == 45) abc) [
        | inl ab ↦ elim (or_cases (is_ascii_alphanumeric b) (b == 46) ab) [
          | inl a ↦ alphanumeric_is_ascii b a
          | inr dot ↦ lt-ltb b 128 (omega (arith, eqb-true b 46 dot))
        ]
        | inr hyphen ↦ lt-ltb b 128 (omega (arith, eqb-true b 45 hyphen))
      ]
      | inr underscore ↦ lt-ltb b 128 (omega (arith, eqb-true b 95 underscore))
    ]

pub name_is_ascii : (name : List ℕ) → is_name name ≡ true → list_all is_ascii name ≡ true
name_is_ascii = name_passes is_ascii name_byte_is_ascii

pub date_is_ascii : (date : List ℕ) → is_date_form date ≡ true → list_all is_ascii date ≡ true
date_is_ascii = date_passes is_ascii digit_is_ascii refl
