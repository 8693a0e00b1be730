-- Why a line is refused, in words.
use Rattle.std.specs.Prelude.{ℕ, ◌==◌, if◌then◌else◌, List, [], ◌++◌, codes, length, Option, None, Some}
use Rattle.std.specs.Fmt.{decimal}
use Rattle.line_text.specs.Lines.{is_long}
use Rattle.line_text.specs.Words.{spaced_words}
use Rattle.bridge_movement.specs.declared.refused.MovementRefused.{MovementRefused}
use Rattle.bridge_movement.specs.declared.refused.MovementRefused.TheVariants.{MissingRow, BadPair, SamePair, BadSet, PairTwice, SetAgain}
use Rattle.bridge_config.specs.declared.refused.ConfigRefused.{ConfigRefused}
use Rattle.bridge_config.specs.declared.refused.ConfigRefused.TheVariants as refused
use Rattle.evening_plan.specs.declared.line_kind.LineKind.{LineKind}
use Rattle.evening_plan.specs.declared.line_kind.LineKind.TheVariants as kind
use Rattle.evening_plan.specs.declared.part.Part.{Part}
use Rattle.evening_plan.specs.declared.part.Part.TheVariants.{Keyword, Name, Date, Scoring, Number, Split}
use Rattle.evening_plan.specs.declared.part.Check.{Check}
use Rattle.evening_plan.specs.declared.part.Check.TheVariants.{Form, Range}
use Rattle.evening_plan.specs.declared.misfit.Misfit.{Misfit}
use Rattle.evening_plan.specs.declared.misfit.Misfit.TheVariants.{Lacking, Extra, Empty, Wrong}
use Rattle.evening_plan.specs.Part.{keyword_of, parts_due}
use Rattle.evening_plan.specs.Misfit.{first_misfit}

-- the keywords that may begin the line
abbrev pub keyword_words : LineKind → List ℕ
keyword_words kind.Movement = codes "MITCHELL or MOVEMENT"
keyword_words kind = keyword_of kind

-- the form of a word
abbrev pub form_words : Part → List ℕ
form_words (Keyword kind) = keyword_words kind
form_words Name = codes "a name of 1 to 24 letters, digits, . - _"
form_words Date = codes "a date of four, two and two digits with dots between them"
form_words Scoring = codes "MP or IMP"
form_words (Number low high) = codes "a number in digits alone, without a 0 in front"
form_words Split = codes "a number in digits alone, without a 0 in front"

-- the numbers from the low to the high one
abbrev pub between_words : ℕ → ℕ → List ℕ
between_words low high =
    if low == high then decimal low ++ codes ", the number that is due"
    else ((codes "from " ++ decimal low) ++ codes " to ") ++ decimal high

-- the range of a word
abbrev pub range_words : Part → List ℕ
range_words (Keyword kind) = codes "as it must be"
range_words Name = codes "as it must be"
range_words Date = codes "a day: the month is from 01 to 12, the day from 01 to 31"
range_words Scoring = codes "as it must be"
range_words (Number low high) = between_words low high
range_words Split = codes "from 1 to the number of pairs, which is word 5"

-- what a word must be
abbrev pub part_words : Check → Part → List ℕ
part_words Form part = form_words part
part_words Range part = range_words part

-- the word of that number
abbrev pub word_words : ℕ → List ℕ → List ℕ
word_words at words = (codes "word " ++ decimal at) ++ words

-- a word for which nothing is due; where it is the first, its line is one too many
abbrev pub extra_words : ℕ → List ℕ
extra_words at = if at == 1 then codes "no line is due any more" else word_words at (codes " is one too many")

-- what is wrong with a word
abbrev pub misfit_words : Check → Option Misfit → List ℕ
misfit_words check None = codes "it has another form"
misfit_words check (Some (Lacking at)) = word_words at (codes " is missing")
misfit_words check (Some (Extra at)) = extra_words at
misfit_words check (Some (Empty at)) = word_words at (codes " is empty: one space stands between two words, and none at the end")
misfit_words check (Some (Wrong at part)) = word_words at (codes " is not ") ++ part_words check part

-- what is wrong with the words of the line
abbrev pub words_reason : Check → LineKind → List ℕ → List ℕ
words_reason check kind line = misfit_words check (first_misfit check 1 [] (parts_due kind) (spaced_words line))

-- why a line is out of form: there is none, it is too long or empty, or one of its words is at fault
abbrev pub form_reason : LineKind → Option (List ℕ) → List ℕ
form_reason kind None = codes "the text ends before this line"
form_reason kind (Some line) =
    if is_long line then codes "the line has more than 128 characters"
    else if length line == 0 then codes "the line is empty"
    else words_reason Form kind line

-- which word is out of range
abbrev pub range_reason : LineKind → Option (List ℕ) → List ℕ
range_reason kind None = codes "the text ends before this line"
range_reason kind (Some line) = words_reason Range kind line

-- why the rows are no movement
abbrev pub movement_reason : MovementRefused → List ℕ
movement_reason (MissingRow number) = codes "its round and table are not the ones that are next"
movement_reason (BadPair number) = codes "a pair's number is above the number of pairs in line 6"
movement_reason (SamePair number) = codes "the pair plays against itself"
movement_reason (BadSet number) = codes "the set is 0, or above the number of sets in line 6"
movement_reason (PairTwice number) = codes "a pair of this row stands in an earlier row of the same round"
movement_reason (SetAgain number) = codes "a pair of this row has played this set in an earlier row"

-- why that line is refused
abbrev pub reason_of : LineKind → Option (List ℕ) → ConfigRefused → List ℕ
reason_of kind line refused.TooLong = codes "the text has more than 16384 characters"
reason_of kind line refused.Form = form_reason kind line
reason_of kind line refused.Range = range_reason kind line
reason_of kind line refused.KeyTwice = codes "one of its keys stands earlier in the text"
reason_of kind line (refused.Movement movement) = movement_reason movement
