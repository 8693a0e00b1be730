-- Names and dates have no control characters.
use Rattle.std.proofs.Common.{◌≡◌, ℕ, ◌≤◌, true, not, leb, eqb, ◌&&◌, List, ◌∷◌, ◌++◌, length, get_or, take, drop, slice_range, sym, ap, ◌∙◌, arith}
use Rattle.std.specs.List.{list_all}
use Rattle.std.specs.Char.{is_ascii_digit}
use Rattle.std.proofs.lemmas.Bool.{and_parts, and_from, eqb-true, leb-true}
use Rattle.std.proofs.lemmas.Bool.Decides.{nat_tests}
use Rattle.std.proofs.lemmas.List.{take-append-drop}
use Rattle.std.proofs.lemmas.List.Folds.{list_all-append, drop_split}
use Rattle.std.proofs.Math.Seq.{drop-cons}
use Rattle.line_text.proofs.Ascii.{list_all_weaker}
use Rattle.bridge_config.specs.Limits.{is_name_byte, is_name, is_date_form}
use Rattle.evening_draft.proofs.Spelled.{is_shown}

name_byte_shown : (byte : ℕ) → is_name_byte byte ≡ true → is_shown byte ≡ true
name_byte_shown byte name = grind (arith, nat_tests)

digit_shown : (byte : ℕ) → is_ascii_digit byte ≡ true → is_shown byte ≡ true
digit_shown byte digit = grind (arith, nat_tests)

pub name_shown : (name : List ℕ) → is_name name ≡ true → list_all is_shown name ≡ true
name_shown name named =
    let a = and_parts (list_all is_name_byte name && not (eqb (length name) 0)) (leb (length name) 24) named in
    list_all_weaker is_name_byte is_shown name_byte_shown name (and_parts (list_all is_name_byte name) (not (eqb (length name) 0)) a.0).0

pub name_length : (name : List ℕ) → is_name name ≡ true → length name ≤ 24
name_length name named = leb-true (length name) 24 (and_parts _ _ named).1

-- a date is its year, a dot, its month, a dot and its day
date_parts : (date : List ℕ) → length date ≡ 10 → get_or date 4 0 ≡ 46 → get_or date 7 0 ≡ 46 →
    date ≡ take 4 date ++ (46 ∷ (slice_range date 5 7 ++ (46 ∷ drop 8 date)))
date_parts date long first second =
    let at4 : drop 4 date ≡ get_or date 4 0 ∷ drop 5 date = drop-cons date 4 0 (omega arith) in
    let at7 : drop 7 date ≡ get_or date 7 0 ∷ drop 8 date = drop-cons date 7 0 (omega arith) in
    let middle : drop 5 date ≡ slice_range date 5 7 ++ drop 7 date = drop_split date 5 7 (omega arith) in
    let whole : take 4 date ++ drop 4 date ≡ date = take-append-drop 4 date in
    let last : drop 7 date ≡ 46 ∷ drop 8 date = cc in
    let front : drop 4 date ≡ 46 ∷ (slice_range date 5 7 ++ (46 ∷ drop 8 date)) = cc in
    sym whole ∙ ap (λ (rest : List ℕ). take 4 date ++ rest) front

-- digits, a dot, digits, a dot and digits
parts_shown : (year month day : List ℕ) → list_all is_ascii_digit year ≡ true → list_all is_ascii_digit month ≡ true →
    list_all is_ascii_digit day ≡ true → list_all is_shown (year ++ (46 ∷ (month ++ (46 ∷ day)))) ≡ true
parts_shown year month day of_year of_month of_day =
    let pass = list_all_weaker is_ascii_digit is_shown digit_shown in
    let rest : list_all is_shown (month ++ (46 ∷ day)) ≡ true =
    list_all-append is_shown month (46 ∷ day) ∙ and_from _ _ (pass month of_month) (pass day of_day) in
    list_all-append is_shown year (46 ∷ (month ++ (46 ∷ day))) ∙ and_from _ _ (pass year of_year) rest

pub date_shown : (date : List ℕ) → is_date_form date ≡ true → list_all is_shown date ≡ true
date_shown date form =
    let a = and_parts _ _ form in
    let b = and_parts _ _ a.0 in
    let c = and_parts _ _ b.0 in
    let d = and_parts _ _ c.0 in
    let e = and_parts _ _ d.0 in
    let parts = date_parts date (eqb-true (length date) 10 e.0) (eqb-true (get_or date 4 0) 46 e.1) (eqb-true (get_or date 7 0) 46 d.1) in
    ap (list_all is_shown) parts ∙ parts_shown (take 4 date) (slice_range date 5 7) (drop 8 date) c.1 b.1 a.1

pub date_length : (date : List ℕ) → is_date_form date ≡ true → length date ≡ 10
date_length date form =
    eqb-true (length date) 10 (and_parts _ _ (and_parts _ _ (and_parts _ _ (and_parts _ _ (and_parts _ _ form).0).0).0).0).0
