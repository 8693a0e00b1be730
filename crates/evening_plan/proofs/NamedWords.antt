-- Lines none of whose words is named.
use Rattle.std.proofs.Common.{◌≡◌, ℕ, ◌+◌, Bool, true, false, not, ◌&&◌, ◌||◌, cond, List, [], ◌∷◌, Option, Some, None, Result, Ok, Err, nat_eq, refl, sym, ap, subst}
use Rattle.std.specs.Prelude.{codes}
use Rattle.std.specs.Str.{bytes_eq}
use Rattle.line_text.specs.Lines.{is_long}
use Rattle.line_text.specs.Words.{Five, spaced_words, words_of, word_after, five_after}
use Rattle.line_text.specs.Numeral.{is_numeral}
use Rattle.line_text.proofs.Splits.{some_part}
use Rattle.bridge_cards.specs.declared.scoring.Scoring.TheVariants.{MatchPoints, Imps}
use Rattle.bridge_config.specs.declared.refused.ConfigFault.{ConfigFault}
use Rattle.bridge_config.specs.declared.refused.ConfigRefused.TheVariants.{KeyTwice}
use Rattle.bridge_config.specs.Limits.{is_name, is_date_form, is_date_within, stands_in}
use Rattle.bridge_config.specs.Then.{◌>>=◌}
use Rattle.bridge_config.specs.LineReading.{form_at, range_at, within, name_in, date_in, scoring_in, number_in, are_numerals, shape_within, shape_in, row_within, row_in, is_pair_form, pair_within, pair_in}
use Rattle.evening_plan.specs.declared.line_kind.LineKind.{LineKind}
use Rattle.evening_plan.specs.declared.line_kind.LineKind.TheVariants as kind
use Rattle.evening_plan.specs.declared.part.Part.{Part}
use Rattle.evening_plan.specs.declared.part.Part.TheVariants.{Keyword, Name, Date, Scoring as ScoringPart, Number, Split}
use Rattle.evening_plan.specs.declared.part.Check.TheVariants.{Form}
use Rattle.evening_plan.specs.declared.misfit.Misfit.{Misfit}
use Rattle.evening_plan.specs.Part.{keyword_of, parts_due, is_formed}
use Rattle.evening_plan.specs.Misfit.{wrong_at, first_misfit}
use Rattle.evening_plan.specs.Named.{IsInForm, IsReadAs}

-- each word is in the form of its part, and there are as many
AreFormed : List Part → List (List ℕ) → Type 0
AreFormed [] [] = Unit {0}
AreFormed [] (word ∷ words) = ⊥
AreFormed (part ∷ parts) [] = ⊥
AreFormed (part ∷ parts) (word ∷ words) = (is_formed part word ≡ true) × AreFormed parts words

-- a test that was passed
passed : (b : Bool) (x : Option Misfit) (m : Misfit) → cond b x (Some m) ≡ None → (b ≡ true) × (x ≡ None)
passed true x m e = (refl, e)
passed false x m e = absurd cc

-- where no word is named, each is in form
are_formed : (at : ℕ) (previous : List ℕ) (parts : List Part) (words : List (List ℕ)) → first_misfit Form at previous parts words ≡ None → AreFormed parts words
unfolding AreFormed
are_formed at previous [] [] none = tt
are_formed at previous [] (word ∷ words) none = absurd cc
are_formed at previous (part ∷ parts) [] none = absurd cc
are_formed at previous (part ∷ parts) (word ∷ words) none =
    let both = passed (is_formed part word) (first_misfit Form (at + 1) word parts words) (wrong_at at part word) none in
    (both.0, are_formed (at + 1) word parts words both.1)

-- the word after the keyword
word_found : (due : LineKind) (part : Part) (words : List (List ℕ)) → AreFormed (Keyword due ∷ part ∷ []) words → (word : List ℕ) × (word_after (keyword_of due) words ≡ Some word) × (is_formed part word ≡ true)
unfolding AreFormed
word_found due part [] formed = absurd formed
word_found due part (a ∷ []) formed = absurd formed.1
word_found due part (a ∷ b ∷ []) formed = (b, ap (λ (t : Bool). cond t (Some b) None) formed.0, formed.1.0)
word_found due part (a ∷ b ∷ c ∷ words) formed = absurd formed.1.1

-- the five words after the keyword
record FiveFound (due : LineKind) (p q r s t : Part) (words : List (List ℕ)) : Type 0 where
  pub five : Five
  pub found : five_after (keyword_of due) words ≡ Some five
  pub first : is_formed p five.first ≡ true
  pub second : is_formed q five.second ≡ true
  pub third : is_formed r five.third ≡ true
  pub fourth : is_formed s five.fourth ≡ true
  pub fifth : is_formed t five.fifth ≡ true

five_found : (due : LineKind) (p q r s t : Part) (words : List (List ℕ)) → AreFormed (Keyword due ∷ p ∷ q ∷ r ∷ s ∷ t ∷ []) words → FiveFound due p q r s t words
unfolding AreFormed
five_found due p q r s t [] formed = absurd formed
five_found due p q r s t (k ∷ []) formed = absurd formed.1
five_found due p q r s t (k ∷ a ∷ []) formed = absurd formed.1.1
five_found due p q r s t (k ∷ a ∷ b ∷ []) formed = absurd formed.1.1.1
five_found due p q r s t (k ∷ a ∷ b ∷ c ∷ []) formed = absurd formed.1.1.1.1
five_found due p q r s t (k ∷ a ∷ b ∷ c ∷ d ∷ []) formed = absurd formed.1.1.1.1.1
five_found due p q r s t (k ∷ a ∷ b ∷ c ∷ d ∷ e ∷ []) formed =
    let words : Five = record { first = a; second = b; third = c; fourth = d; fifth = e } in
    record {
      five = words;
      found = ap (λ (h : Bool). cond h (Some words) None) formed.0;
      first = formed.1.0;
      second = formed.1.1.0;
      third = formed.1.1.1.0;
      fourth = formed.1.1.1.1.0;
      fifth = formed.1.1.1.1.1.0;
    }
five_found due p q r s t (k ∷ a ∷ b ∷ c ∷ d ∷ e ∷ f ∷ words) formed = absurd formed.1.1.1.1.1.1

-- a range that is left is no fault of form
ranged : {X : Type 0} (number : ℕ) (b : Bool) (x : X) → IsInForm (cond b (Ok x) (Err (range_at number)))
ranged number true x = tt
ranged number false x = λ e. cc

-- one step after another
then_formed : {A B : Type 0} (read : Result A ConfigFault) (next : A → Result B ConfigFault) → IsInForm read → ((x : A) → IsInForm (next x)) → IsInForm (read >>= next)
then_formed (Ok x) next is all = all x
then_formed (Err fault) next is all = is

-- the number of a numeral
within_formed : (number low high : ℕ) (word : List ℕ) → IsInForm (within number low high word)
within_formed number low high word = ranged number _ _

-- a test that is passed, before what is in form
tested : {X : Type 0} (number : ℕ) (b : Bool) (read : Result X ConfigFault) → b ≡ true → IsInForm read → IsInForm (cond b read (Err (form_at number)))
tested number b read is formed = subst (λ (t : Bool). IsInForm (cond t read (Err (form_at number)))) (sym is) formed

-- a name, a date, a scoring and a number
named : (number : ℕ) (word : List ℕ) → is_name word ≡ true → IsInForm (name_in number (Some word))
named number word is = tested number (is_name word) (Ok word) is tt

dated : (number : ℕ) (word : List ℕ) → is_date_form word ≡ true → IsInForm (date_in number (Some word))
dated number word is =
    subst (λ (t : Bool). IsInForm (cond (not t) (Err (form_at number)) (cond (is_date_within word) (Ok word) (Err (range_at number))))) (sym is)
    (ranged number (is_date_within word) word)

scored_by : (number : ℕ) (mp imp : Bool) → (mp || imp) ≡ true → IsInForm (cond mp (Ok MatchPoints) (cond imp (Ok Imps) (Err (form_at number))))
scored_by number true imp is = tt
scored_by number false true is = tt
scored_by number false false is = absurd cc

numbered : (number low high : ℕ) (word : List ℕ) → is_numeral word ≡ true → IsInForm (number_in number low high (Some word))
numbered number low high word is = tested number (is_numeral word) (within number low high word) is (within_formed number low high word)

-- a shape, a row and a pair
shaped : (number : ℕ) (words : Five) → IsInForm (shape_within number words)
unfolding shape_within
shaped number words =
    then_formed _ _ (within_formed number 2 12 words.first) (λ tables.
    then_formed _ _ (within_formed number 1 12 words.second) (λ rounds.
    then_formed _ _ (within_formed number 1 12 words.third) (λ sets.
    then_formed _ _ (within_formed number 2 24 words.fourth) (λ pairs.
    then_formed _ _ (within_formed number 1 pairs words.fifth) (λ split. tt)))))

rowed : (number : ℕ) (words : Five) → IsInForm (row_within number words)
unfolding row_within
rowed number words =
    then_formed _ _ (within_formed number 0 255 words.first) (λ round.
    then_formed _ _ (within_formed number 0 255 words.second) (λ table.
    then_formed _ _ (within_formed number 0 255 words.third) (λ ns.
    then_formed _ _ (within_formed number 0 255 words.fourth) (λ ew.
    then_formed _ _ (within_formed number 0 255 words.fifth) (λ set. tt)))))

keyed : (number : ℕ) (b : Bool) (keys : List ℕ) → IsInForm (cond b (Err (record { line = number; cause = KeyTwice })) (Ok keys))
keyed number true keys = λ e. cc
keyed number false keys = tt

paired : (number index : ℕ) (earlier : List ℕ) (words : Five) → IsInForm (pair_within number index earlier words)
unfolding pair_within
paired number index earlier words =
    then_formed _ _ (within_formed number index index words.first) (λ own.
    then_formed _ _ (within_formed number 0 4294967295 words.third) (λ first.
    then_formed _ _ (within_formed number 0 4294967295 words.fifth) (λ second.
    then_formed _ _ (keyed number (stands_in earlier first || stands_in earlier second || nat_eq first second) (first ∷ second ∷ [])) (λ keys. tt))))

-- five tests that are passed
all_five : (a b c d e : Bool) → a ≡ true → b ≡ true → c ≡ true → d ≡ true → e ≡ true → (a && b && c && d && e) ≡ true
all_five true true true true true p q r s t = refl
all_five false b c d e p q r s t = absurd cc
all_five true false c d e p q r s t = absurd cc
all_five true true false d e p q r s t = absurd cc
all_five true true true false e p q r s t = absurd cc
all_five true true true true false p q r s t = absurd cc

-- what is read of the words of a line that is not too long
of_words : {X : Type 0} (line : List ℕ) (read : List (List ℕ) → Result X ConfigFault) → is_long line ≡ false → IsInForm (read (spaced_words line)) → IsInForm (read (words_of line))
of_words line read short formed =
    subst (λ (t : Bool). IsInForm (read (cond t [] (spaced_words line)))) (sym short) formed

-- a line of a keyword and one word
one_word : {X : Type 0} (due : LineKind) (part : Part) (line : List ℕ) (read : Option (List ℕ) → Result X ConfigFault) → is_long line ≡ false → AreFormed (Keyword due ∷ part ∷ []) (spaced_words line) → ((word : List ℕ) → is_formed part word ≡ true → IsInForm (read (Some word))) → IsInForm (read (word_after (keyword_of due) (words_of line)))
one_word due part line read short formed each =
    let found = word_found due part (spaced_words line) formed in
    of_words line (λ words. read (word_after (keyword_of due) words)) short
    (subst (λ word. IsInForm (read word)) (sym found.1) (each found.0 found.2))

-- a line of a keyword and five words
more_words : {X : Type 0} (due : LineKind) (p q r s t : Part) (line : List ℕ) (read : Option Five → Result X ConfigFault) → is_long line ≡ false → AreFormed (Keyword due ∷ p ∷ q ∷ r ∷ s ∷ t ∷ []) (spaced_words line) → ((found : FiveFound due p q r s t (spaced_words line)) → IsInForm (read (Some found.five))) → IsInForm (read (five_after (keyword_of due) (words_of line)))
more_words due p q r s t line read short formed each =
    let found = five_found due p q r s t (spaced_words line) formed in
    of_words line (λ words. read (five_after (keyword_of due) words)) short
    (subst (λ words. IsInForm (read words)) (sym found.found) (each found))

-- no line is due
never : (line : List ℕ) → AreFormed [] (spaced_words line) → ⊥
unfolding AreFormed
never line formed = let some = some_part 32 line in subst (AreFormed []) some.2 formed

-- each kind of line
read_as : (due : LineKind) (number : ℕ) (earlier line : List ℕ) → is_long line ≡ false → AreFormed (parts_due due) (spaced_words line) → IsReadAs due number earlier line
read_as kind.Event number earlier line short formed = one_word kind.Event Name line (name_in number) short formed (named number)
read_as kind.Site number earlier line short formed = one_word kind.Site Name line (name_in number) short formed (named number)
read_as kind.Date number earlier line short formed = one_word kind.Date Date line (date_in number) short formed (dated number)
read_as kind.Scoring number earlier line short formed =
    one_word kind.Scoring ScoringPart line (scoring_in number) short formed (λ word is. scored_by number (bytes_eq word (codes "MP")) (bytes_eq word (codes "IMP")) is)
read_as kind.Boards number earlier line short formed = one_word kind.Boards (Number 1 3) line (number_in number 1 3) short formed (numbered number 1 3)
read_as kind.Mitchell number earlier line short formed =
    one_word kind.Mitchell (Number 2 12) line (number_in number 2 12) short formed (numbered number 2 12)
read_as kind.Movement number earlier line short formed =
    more_words kind.Movement (Number 2 12) (Number 1 12) (Number 1 12) (Number 2 24) Split line (shape_in number) short formed
    (λ found. tested number (are_numerals found.five) (shape_within number found.five)
    (all_five _ _ _ _ _ found.first found.second found.third found.fourth found.fifth) (shaped number found.five))
read_as kind.Row number earlier line short formed =
    more_words kind.Row (Number 0 255) (Number 0 255) (Number 0 255) (Number 0 255) (Number 0 255) line (row_in number) short formed
    (λ found. tested number (are_numerals found.five) (row_within number found.five)
    (all_five _ _ _ _ _ found.first found.second found.third found.fourth found.fifth) (rowed number found.five))
read_as kind.Director number earlier line short formed =
    one_word kind.Director (Number 0 4294967295) line (number_in number 0 4294967295) short formed (numbered number 0 4294967295)
read_as (kind.Pair index) number earlier line short formed =
    more_words (kind.Pair index) (Number index index) Name (Number 0 4294967295) Name (Number 0 4294967295) line (pair_in number index earlier) short formed
    (λ found. tested number (is_pair_form found.five) (pair_within number index earlier found.five)
    (all_five _ _ _ _ _ found.first found.second found.third found.fourth found.fifth) (paired number index earlier found.five))
read_as kind.End number earlier line short formed = never line formed

-- a line of at most 128 bytes of which no word is named is in form
pub names_each_fault : (due : LineKind) (number : ℕ) (earlier line : List ℕ) → is_long line ≡ false → first_misfit Form 1 [] (parts_due due) (spaced_words line) ≡ None → IsReadAs due number earlier line
names_each_fault due number earlier line short none =
    read_as due number earlier line short (are_formed 1 [] (parts_due due) (spaced_words line) none)
