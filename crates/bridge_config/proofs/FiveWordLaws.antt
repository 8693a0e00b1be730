-- What a line of a keyword and five words states is spelled by it, and what it spells is read from it.
use Rattle.std.proofs.Common.{◌≡◌, ℕ, ◌^◌, ◌<◌, ◌≤◌, Bool, true, false, ◌&&◌, ◌||◌, eqb, List, [], ◌∷◌, ◌++◌, length, Option, Some, None, Ok, Result, refl, sym, ap, ap₂, subst, ◌∙◌, arith}
use Rattle.std.specs.Prelude.{codes, All}
use Rattle.std.specs.List.{list_all}
use Rattle.std.specs.Fmt.{decimal}
use Rattle.std.proofs.lemmas.Bool.{and_parts, and_from, or_parts, or_from}
use Rattle.std.proofs.lemmas.List.Elements.{All-from_recursion}
use Rattle.bridge_movement.specs.declared.row.Row.{Row}
use Rattle.bridge_movement.specs.declared.shape.Shape.{Shape}
use Rattle.bridge_movement.specs.Shape.{IsShape}
use Rattle.bridge_config.specs.declared.refused.ConfigFault.{ConfigFault}
use Rattle.bridge_config.specs.declared.refused.ConfigRefused.TheVariants.{KeyTwice}
use Rattle.bridge_config.specs.ConfigValue.{Pair}
use Rattle.bridge_config.specs.Limits.{is_name, are_distinct, stands_in, IsPair}
use Rattle.line_text.specs.Words.{spaced, Five, words_of, five_after}
use Rattle.bridge_config.specs.Spelling.{shape_text, row_text, pair_text, player_words}
use Rattle.bridge_config.specs.LineReading.{form_at, within, are_numerals, is_pair_form, keys_after, shape_in, shape_within, row_in, row_within, pair_in, pair_within, shape_line, row_line, pair_line}
use Rattle.bridge_config.proofs.Steps.{bind_ok, ok_is}
use Rattle.bridge_config.proofs.PassedTests.{after_test, unless}
use Rattle.line_text.proofs.WordLaws.{is_not_space, are_plain, words_of_five, five_takes, five_again}
use Rattle.bridge_config.proofs.PlainWords.{name_is_plain}
use Rattle.bridge_config.proofs.NumeralLaws.{numeral_takes, numeral_again}
use Rattle.line_text.proofs.NumeralLaws.{decimal_is_plain, decimal_is_numeral}
use Rattle.bridge_config.proofs.FiveWords.{each_numeral, pair_form}
use Rattle.bridge_config.proofs.DistinctKeys.{AreNew, are_distinct_more, are_new}

-- five tests that hold each hold together
all_true : (a b c d e : Bool) → a ≡ true → b ≡ true → c ≡ true → d ≡ true → e ≡ true → (a && b && c && d && e) ≡ true
all_true a b c d e p q r s t = and_from (a && b && c && d) e (and_from (a && b && c) d (and_from (a && b) c (and_from a b p q) r) s) t

-- what is read from five words, each of which is in its form
record IsReadFrom {A : Type 0} (form : Five → Bool) (reads : Five → Result A ConfigFault) (o : Option Five) (value : A) : Type 0 where
  five : Five
  there : o ≡ Some five
  formed : form five ≡ true
  read : reads five ≡ Ok value

-- the words of five numbers
abbrev five_numbers : ℕ → ℕ → ℕ → ℕ → ℕ → Five
five_numbers a b c d e = record { first = decimal a; second = decimal b; third = decimal c; fourth = decimal d; fifth = decimal e }

abbrev five_with : List ℕ → List ℕ → List ℕ → List ℕ → List ℕ → Five
five_with a b c d e = record { first = a; second = b; third = c; fourth = d; fifth = e }

-- five words that are equal one by one are equal together
five_from : (a b c d e v w x y z : List ℕ) → a ≡ v → b ≡ w → c ≡ x → d ≡ y → e ≡ z → five_with a b c d e ≡ five_with v w x y z
five_from a b c d e v w x y z p q r s t = cc

-- five words that are written as numbers are the words of these numbers
same_five : (five : Five) (a b c d e : ℕ) → five.first ≡ decimal a → five.second ≡ decimal b → five.third ≡ decimal c → five.fourth ≡ decimal d → five.fifth ≡ decimal e → five ≡ five_numbers a b c d e
same_five five a b c d e p q r s t = five_from five.first five.second five.third five.fourth five.fifth (decimal a) (decimal b) (decimal c) (decimal d) (decimal e) p q r s t

-- a keyword and five numbers have no space within a word
numbers_are_plain : (keyword : List ℕ) (a b c d e : ℕ) → list_all is_not_space keyword ≡ true → a < 2 ^ 64 → b < 2 ^ 64 → c < 2 ^ 64 → d < 2 ^ 64 → e < 2 ^ 64 → are_plain (keyword ∷ words_of_five (five_numbers a b c d e)) ≡ true
numbers_are_plain keyword a b c d e plain p q r s t =
    and_from _ _ plain (and_from _ _ (decimal_is_plain a p) (and_from _ _ (decimal_is_plain b q) (and_from _ _ (decimal_is_plain c r) (and_from _ _ (decimal_is_plain d s) (and_from _ _ (decimal_is_plain e t) refl)))))

-- the words of five numbers are numerals
numbers_are_numerals : (a b c d e : ℕ) → a < 2 ^ 64 → b < 2 ^ 64 → c < 2 ^ 64 → d < 2 ^ 64 → e < 2 ^ 64 → are_numerals (five_numbers a b c d e) ≡ true
numbers_are_numerals a b c d e p q r s t =
    all_true _ _ _ _ _ (decimal_is_numeral a p) (decimal_is_numeral b q) (decimal_is_numeral c r) (decimal_is_numeral d s) (decimal_is_numeral e t)

-- ---- the shape

-- a shape that was read comes of five numerals
shape_read : (n : ℕ) (o : Option Five) (shape : Shape) → shape_in n o ≡ Ok shape → IsReadFrom are_numerals (shape_within n) o shape
shape_read n None shape e = absurd cc
shape_read n (Some five) shape e =
    let t = after_test (are_numerals five) (form_at n) (shape_within n five) shape e in
    record { five = five; there = refl; formed = t.0; read = t.1 }

abbrev five_of_shape : Shape → Five
five_of_shape shape = five_numbers shape.tables shape.rounds shape.sets shape.pairs shape.split

-- five numerals that were read as a shape are its numbers, which are within the limits
shape_numbers : (n : ℕ) (five : Five) (shape : Shape) → are_numerals five ≡ true → shape_within n five ≡ Ok shape → (five ≡ five_of_shape shape) × IsShape shape
unfolding shape_within
shape_numbers n five shape form e =
    let f = each_numeral five form in
    let a = bind_ok (within n 2 12 five.first) _ shape e in
    let b = bind_ok (within n 1 12 five.second) _ shape a.2 in
    let c = bind_ok (within n 1 12 five.third) _ shape b.2 in
    let d = bind_ok (within n 2 24 five.fourth) _ shape c.2 in
    let s = bind_ok (within n 1 d.0 five.fifth) _ shape d.2 in
    let made : Shape = record { tables = a.0; rounds = b.0; sets = c.0; pairs = d.0; split = s.0 } in
    let t1 = numeral_takes n 2 12 five.first a.0 (omega arith) f.first a.1 in
    let t2 = numeral_takes n 1 12 five.second b.0 (omega arith) f.second b.1 in
    let t3 = numeral_takes n 1 12 five.third c.0 (omega arith) f.third c.1 in
    let t4 = numeral_takes n 2 24 five.fourth d.0 (omega arith) f.fourth d.1 in
    let t5 = numeral_takes n 1 d.0 five.fifth s.0 (omega arith) f.fifth s.1 in
    let words : five ≡ five_of_shape made = same_five five a.0 b.0 c.0 d.0 s.0 t1.spelled t2.spelled t3.spelled t4.spelled t5.spelled in
    subst (λ (x : Shape). (five ≡ five_of_shape x) × IsShape x) {x = made} (ok_is made shape s.2)
    (words, record { tables = t1.limits; rounds = t2.limits; sets = t3.limits; pairs = t4.limits; split = t5.limits })

-- the numbers of a shape within the limits are read as that shape
shape_again_in : (n : ℕ) (shape : Shape) → IsShape shape → shape_within n (five_of_shape shape) ≡ Ok shape
unfolding shape_within
shape_again_in n shape limits =
    rw (numeral_again n 2 12 shape.tables (omega arith) limits.tables, numeral_again n 1 12 shape.rounds (omega arith) limits.rounds, numeral_again n 1 12 shape.sets (omega arith) limits.sets, numeral_again n 2 24 shape.pairs (omega arith) limits.pairs, numeral_again n 1 shape.pairs shape.split (omega arith) limits.split) refl

-- a line that was read as a shape spells it
pub shape_takes : (n : ℕ) (line : List ℕ) (shape : Shape) → shape_line n line ≡ Ok shape → (line ≡ shape_text shape) × IsShape shape
shape_takes n line shape read =
    let t = shape_read n (five_after (codes "MOVEMENT") (words_of line)) shape read in
    let numbers = shape_numbers n t.five shape t.formed t.read in
    (five_takes (codes "MOVEMENT") line t.five t.there ∙ ap (λ (five : Five). spaced (codes "MOVEMENT" ∷ words_of_five five)) numbers.0, numbers.1)

-- a line that spells a shape is read as it
pub shape_again : (n : ℕ) (line : List ℕ) (shape : Shape) → length line ≤ 128 → IsShape shape → line ≡ shape_text shape → shape_line n line ≡ Ok shape
shape_again n line shape short limits spelled =
    let plain = numbers_are_plain (codes "MOVEMENT") shape.tables shape.rounds shape.sets shape.pairs shape.split refl (omega arith) (omega arith) (omega arith) (omega arith) (omega arith) in
    let numerals = numbers_are_numerals shape.tables shape.rounds shape.sets shape.pairs shape.split (omega arith) (omega arith) (omega arith) (omega arith) (omega arith) in
    ap (shape_in n) (five_again (codes "MOVEMENT") line (five_of_shape shape) short plain spelled) ∙ rw numerals (shape_again_in n shape limits)

-- ---- a row

-- a row that was read comes of five numerals
row_read : (n : ℕ) (o : Option Five) (row : Row) → row_in n o ≡ Ok row → IsReadFrom are_numerals (row_within n) o row
row_read n None row e = absurd cc
row_read n (Some five) row e =
    let t = after_test (are_numerals five) (form_at n) (row_within n five) row e in
    record { five = five; there = refl; formed = t.0; read = t.1 }

abbrev five_of_row : Row → Five
five_of_row row = five_numbers row.round row.table row.ns row.ew row.set

-- five numerals that were read as a row are its numbers
row_numbers : (n : ℕ) (five : Five) (row : Row) → are_numerals five ≡ true → row_within n five ≡ Ok row → five ≡ five_of_row row
unfolding row_within
row_numbers n five row form e =
    let f = each_numeral five form in
    let a = bind_ok (within n 0 255 five.first) _ row e in
    let b = bind_ok (within n 0 255 five.second) _ row a.2 in
    let c = bind_ok (within n 0 255 five.third) _ row b.2 in
    let d = bind_ok (within n 0 255 five.fourth) _ row c.2 in
    let s = bind_ok (within n 0 255 five.fifth) _ row d.2 in
    let made : Row = record { round = a.0; table = b.0; ns = c.0; ew = d.0; set = s.0 } in
    let t1 = numeral_takes n 0 255 five.first a.0 (omega arith) f.first a.1 in
    let t2 = numeral_takes n 0 255 five.second b.0 (omega arith) f.second b.1 in
    let t3 = numeral_takes n 0 255 five.third c.0 (omega arith) f.third c.1 in
    let t4 = numeral_takes n 0 255 five.fourth d.0 (omega arith) f.fourth d.1 in
    let t5 = numeral_takes n 0 255 five.fifth s.0 (omega arith) f.fifth s.1 in
    let words : five ≡ five_of_row made = same_five five a.0 b.0 c.0 d.0 s.0 t1.spelled t2.spelled t3.spelled t4.spelled t5.spelled in
    subst (λ (x : Row). five ≡ five_of_row x) {x = made} (ok_is made row s.2) words

-- each number of the row fits in a byte
abbrev pub IsByteRow : Row → Type 0
IsByteRow row = (row.round ≤ 255) × (row.table ≤ 255) × (row.ns ≤ 255) × (row.ew ≤ 255) × (row.set ≤ 255)

-- the numbers of a row are read as that row
row_again_in : (n : ℕ) (row : Row) → IsByteRow row → row_within n (five_of_row row) ≡ Ok row
unfolding row_within
row_again_in n row bytes =
    rw (numeral_again n 0 255 row.round (omega arith) (omega arith, bytes.0), numeral_again n 0 255 row.table (omega arith) (omega arith, bytes.1), numeral_again n 0 255 row.ns (omega arith) (omega arith, bytes.2), numeral_again n 0 255 row.ew (omega arith) (omega arith, bytes.3), numeral_again n 0 255 row.set (omega arith) (omega arith, bytes.4)) refl

-- a line that was read as a row spells it
pub row_takes : (n : ℕ) (line : List ℕ) (row : Row) → row_line n line ≡ Ok row → line ≡ row_text row
row_takes n line row read =
    let t = row_read n (five_after (codes "ROW") (words_of line)) row read in
    five_takes (codes "ROW") line t.five t.there ∙ ap (λ (five : Five). spaced (codes "ROW" ∷ words_of_five five)) (row_numbers n t.five row t.formed t.read)

-- a line that spells a row is read as it
pub row_again : (n : ℕ) (line : List ℕ) (row : Row) → length line ≤ 128 → IsByteRow row → line ≡ row_text row → row_line n line ≡ Ok row
row_again n line row short bytes spelled =
    let plain = numbers_are_plain (codes "ROW") row.round row.table row.ns row.ew row.set refl (omega arith) (omega arith) (omega arith) (omega arith) (omega arith) in
    let numerals = numbers_are_numerals row.round row.table row.ns row.ew row.set (omega arith) (omega arith) (omega arith) (omega arith) (omega arith) in
    ap (row_in n) (five_again (codes "ROW") line (five_of_row row) short plain spelled) ∙ rw numerals (row_again_in n row bytes)

-- ---- a pair

-- a pair that was read comes of five words in a pair's form
pair_read : (n index : ℕ) (earlier : List ℕ) (o : Option Five) (pair : Pair) → pair_in n index earlier o ≡ Ok pair → IsReadFrom is_pair_form (pair_within n index earlier) o pair
pair_read n index earlier None pair e = absurd cc
pair_read n index earlier (Some five) pair e =
    let t = after_test (is_pair_form five) (form_at n) (pair_within n index earlier five) pair e in
    record { five = five; there = refl; formed = t.0; read = t.1 }

-- two keys that were taken after others are new
keys_read : (n : ℕ) (earlier : List ℕ) (first second : ℕ) (keys : List ℕ) → keys_after n earlier first second ≡ Ok keys → AreNew earlier first second × (first ∷ second ∷ [] ≡ keys)
keys_read n earlier first second keys e =
    let t = unless (stands_in earlier first || stands_in earlier second || eqb first second) (record { line = n; cause = KeyTwice }) (Ok (first ∷ second ∷ [])) keys e in
    let p = or_parts (stands_in earlier first || stands_in earlier second) (eqb first second) t.0 in
    let q = or_parts (stands_in earlier first) (stands_in earlier second) p.0 in
    (record { first_new = q.0; second_new = q.1; apart = p.1 }, ok_is (first ∷ second ∷ []) keys t.1)

-- two new keys are taken after others
keys_again : (n : ℕ) (earlier : List ℕ) (first second : ℕ) → AreNew earlier first second → keys_after n earlier first second ≡ Ok (first ∷ second ∷ [])
keys_again n earlier first second new =
    let fresh : (stands_in earlier first || stands_in earlier second || eqb first second) ≡ false =
    or_from _ _ (or_from _ _ new.first_new new.second_new) new.apart in
    rw fresh refl

-- what a pair that was read is
record IsPairAfter (index : ℕ) (earlier : List ℕ) (five : Five) (pair : Pair) : Type 0 where
  words : words_of_five five ≡ decimal index ∷ player_words pair.names pair.keys
  limits : IsPair pair
  keys : All (λ key. key ≤ 4294967295) pair.keys
  distinct : are_distinct earlier ≡ true → are_distinct (earlier ++ pair.keys) ≡ true

-- names and new keys within their limits make a pair
pair_made : (index : ℕ) (earlier : List ℕ) (five : Five) (first second : ℕ) → five.first ≡ decimal index → five.third ≡ decimal first → five.fifth ≡ decimal second → is_name five.second ≡ true → is_name five.fourth ≡ true → first ≤ 4294967295 → second ≤ 4294967295 → AreNew earlier first second → IsPairAfter index earlier five (record { names = five.second ∷ five.fourth ∷ []; keys = first ∷ second ∷ [] })
pair_made index earlier five first second p q r one two low high new = record {
  words = cc;
  limits = record { two_names = refl; two_keys = refl; names = and_from (is_name five.second) (is_name five.fourth && true) one (and_from (is_name five.fourth) true two refl) };
  keys = All-from_recursion (λ key. key ≤ 4294967295) (first ∷ second ∷ []) (low, (high, tt));
  distinct = λ distinct. are_distinct_more earlier first second new distinct;
}

-- five words that were read as a pair are its number, names and keys
pair_numbers : (n index : ℕ) (earlier : List ℕ) (five : Five) (pair : Pair) → index < 2 ^ 64 → is_pair_form five ≡ true → pair_within n index earlier five ≡ Ok pair → IsPairAfter index earlier five pair
unfolding pair_within
pair_numbers n index earlier five pair fits form e =
    let f = pair_form five form in
    let a = bind_ok (within n index index five.first) _ pair e in
    let b = bind_ok (within n 0 4294967295 five.third) _ pair a.2 in
    let c = bind_ok (within n 0 4294967295 five.fifth) _ pair b.2 in
    let d = bind_ok (keys_after n earlier b.0 c.0) _ pair c.2 in
    let t1 = numeral_takes n index index five.first a.0 fits f.first a.1 in
    let t2 = numeral_takes n 0 4294967295 five.third b.0 (omega arith) f.third b.1 in
    let t3 = numeral_takes n 0 4294967295 five.fifth c.0 (omega arith) f.fifth c.1 in
    let k = keys_read n earlier b.0 c.0 d.0 d.1 in
    let made : Pair = record { names = five.second ∷ five.fourth ∷ []; keys = b.0 ∷ c.0 ∷ [] } in
    let stated : Pair = record { names = five.second ∷ five.fourth ∷ []; keys = d.0 } in
    let with_keys : made ≡ stated = ap (λ (keys : List ℕ). record { names = five.second ∷ five.fourth ∷ []; keys = keys }) k.1 in
    let is_pair : stated ≡ pair = ok_is stated pair d.2 in
    subst (λ (x : Pair). IsPairAfter index earlier five x) {x = stated} is_pair
    (subst (λ (x : Pair). IsPairAfter index earlier five x) {x = made} with_keys
    (pair_made index earlier five b.0 c.0 (t1.spelled ∙ ap decimal (omega arith)) t2.spelled t3.spelled f.second f.fourth t2.limits.1 t3.limits.1 k.0))

-- a line that was read as a pair spells it, with names and keys in their limits and no key twice
pub pair_takes : (n index : ℕ) (earlier line : List ℕ) (pair : Pair) → index < 2 ^ 64 → pair_line n index earlier line ≡ Ok pair → (line ≡ pair_text index pair) × IsPair pair × All (λ key. key ≤ 4294967295) pair.keys × (are_distinct earlier ≡ true → are_distinct (earlier ++ pair.keys) ≡ true)
pair_takes n index earlier line pair fits read =
    let t = pair_read n index earlier (five_after (codes "PAIR") (words_of line)) pair read in
    let p = pair_numbers n index earlier t.five pair fits t.formed t.read in
    (five_takes (codes "PAIR") line t.five t.there ∙ ap (λ (words : List (List ℕ)). spaced (codes "PAIR" ∷ words)) p.words, p.limits, p.keys, p.distinct)

-- the words of a pair
abbrev five_of_pair : ℕ → List ℕ → List ℕ → ℕ → ℕ → Five
five_of_pair index one two first second = record { first = decimal index; second = one; third = decimal first; fourth = two; fifth = decimal second }

abbrev pair_with : List ℕ → List ℕ → ℕ → ℕ → Pair
pair_with one two first second = record { names = one ∷ two ∷ []; keys = first ∷ second ∷ [] }

-- the words of a pair with new keys are read as that pair
pair_again_in : (n index : ℕ) (earlier one two : List ℕ) (first second : ℕ) → index < 2 ^ 64 → first ≤ 4294967295 → second ≤ 4294967295 → AreNew earlier first second → pair_within n index earlier (five_of_pair index one two first second) ≡ Ok (pair_with one two first second)
unfolding pair_within
pair_again_in n index earlier one two first second fits low high new =
    rw (numeral_again n index index index fits (omega arith, omega arith), numeral_again n 0 4294967295 first (omega arith) (omega arith, low), numeral_again n 0 4294967295 second (omega arith) (omega arith, high), keys_again n earlier first second new) refl

-- a line that spells two names and two new keys is read as their pair
pair_again_with : (n index : ℕ) (earlier line one two : List ℕ) (first second : ℕ) → index < 2 ^ 64 → length line ≤ 128 → is_name one ≡ true → is_name two ≡ true → first ≤ 4294967295 → second ≤ 4294967295 → AreNew earlier first second → line ≡ pair_text index (pair_with one two first second) → pair_line n index earlier line ≡ Ok (pair_with one two first second)
pair_again_with n index earlier line one two first second fits short named_one named_two low high new spelled =
    let small_first : first < 2 ^ 64 = omega arith in
    let small_second : second < 2 ^ 64 = omega arith in
    let plain : are_plain (codes "PAIR" ∷ words_of_five (five_of_pair index one two first second)) ≡ true =
    and_from _ _ refl (and_from _ _ (decimal_is_plain index fits) (and_from _ _ (name_is_plain one named_one) (and_from _ _ (decimal_is_plain first small_first) (and_from _ _ (name_is_plain two named_two) (and_from _ _ (decimal_is_plain second small_second) refl))))) in
    let form : is_pair_form (five_of_pair index one two first second) ≡ true =
    all_true _ _ _ _ _ (decimal_is_numeral index fits) named_one (decimal_is_numeral first small_first) named_two (decimal_is_numeral second small_second) in
    let found : five_after (codes "PAIR") (words_of line) ≡ Some (five_of_pair index one two first second) =
    five_again (codes "PAIR") line (five_of_pair index one two first second) short plain spelled in
    let read : pair_in n index earlier (Some (five_of_pair index one two first second)) ≡ Ok (pair_with one two first second) =
    rw form (pair_again_in n index earlier one two first second fits low high new) in
    subst (λ (o : Option Five). pair_in n index earlier o ≡ Ok (pair_with one two first second)) (sym found) read

-- a list of two elements, by these
two_of : {A : Type 0} (xs : List A) → length xs ≡ 2 → (x : A) × (y : A) × (x ∷ y ∷ [] ≡ xs)
two_of [] two = absurd (omega arith)
two_of (x ∷ []) two = absurd (omega arith)
two_of (x ∷ y ∷ []) two = (x, y, refl)
two_of (x ∷ y ∷ z ∷ rest) two = absurd (omega arith)

-- a line that spells a pair is read as it, where no key stands twice
pub pair_again : (n index : ℕ) (earlier line : List ℕ) (pair : Pair) → index < 2 ^ 64 → length line ≤ 128 → IsPair pair → All (λ key. key ≤ 4294967295) pair.keys → are_distinct (earlier ++ pair.keys) ≡ true → line ≡ pair_text index pair → pair_line n index earlier line ≡ Ok pair
pair_again n index earlier line pair fits short limits keys distinct spelled =
    let names = two_of pair.names limits.two_names in
    let both = two_of pair.keys limits.two_keys in
    let whole : pair_with names.0 names.1 both.0 both.1 ≡ pair = ap₂ (λ (ns : List (List ℕ)) (ks : List ℕ). record { names = ns; keys = ks }) names.2 both.2 in
    let named : list_all is_name (names.0 ∷ names.1 ∷ []) ≡ true = ap (list_all is_name) names.2 ∙ limits.names in
    let p = and_parts (is_name names.0) (list_all is_name (names.1 ∷ [])) named in
    let q = and_parts (is_name names.1) true p.1 in
    let most = subst (λ (ks : List ℕ). All (λ key. key ≤ 4294967295) ks) (sym both.2) keys in
    let new = are_new earlier both.0 both.1 (ap (λ (ks : List ℕ). are_distinct (earlier ++ ks)) both.2 ∙ distinct) in
    subst (λ (x : Pair). pair_line n index earlier line ≡ Ok x) whole
    (pair_again_with n index earlier line names.0 names.1 both.0 both.1 fits short p.0 q.0 (most 0 0 (omega arith)) (most 1 0 (omega arith)) new (spelled ∙ ap (pair_text index) (sym whole)))
