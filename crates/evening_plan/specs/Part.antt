-- What the words of a line must be.
use Rattle.std.specs.Prelude.{ℕ, Bool, true, false, ◌&&◌, ◌||◌, nat_le, if◌then◌else◌, List, [], ◌∷◌, codes, Option, None, Some}
use Rattle.std.specs.Str.{bytes_eq}
use Rattle.std.specs.Str.Parse.{digits_value}
use Rattle.line_text.specs.Numeral.{is_numeral}
use Rattle.bridge_config.specs.Limits.{is_name, is_date_form, is_between}
use Rattle.evening_plan.specs.declared.line_kind.LineKind.{LineKind}
use Rattle.evening_plan.specs.declared.line_kind.LineKind.TheVariants as kind
use Rattle.evening_plan.specs.declared.part.Part.{Part}
use Rattle.evening_plan.specs.declared.part.Part.TheVariants.{Keyword, Name, Date, Scoring, Number, Split}
use Rattle.evening_plan.specs.declared.part.Check.{Check}
use Rattle.evening_plan.specs.declared.part.Check.TheVariants.{Form, Range}

-- the first word of a line
abbrev pub keyword_of : LineKind → List ℕ
keyword_of kind.Event = codes "EVENT"
keyword_of kind.Site = codes "SITE"
keyword_of kind.Date = codes "DATE"
keyword_of kind.Scoring = codes "SCORING"
keyword_of kind.Boards = codes "BOARDS"
keyword_of kind.Mitchell = codes "MITCHELL"
keyword_of kind.Movement = codes "MOVEMENT"
keyword_of kind.Row = codes "ROW"
keyword_of kind.Director = codes "DIRECTOR"
keyword_of (kind.Pair index) = codes "PAIR"
keyword_of kind.End = []

-- a number of any size that a key may have
abbrev pub key_part : Part
key_part = Number 0 4294967295

-- a number that a row may have
abbrev pub row_part : Part
row_part = Number 0 255

-- what the words of a line must be, in order
abbrev pub parts_due : LineKind → List Part
parts_due kind.Event = Keyword kind.Event ∷ Name ∷ []
parts_due kind.Site = Keyword kind.Site ∷ Name ∷ []
parts_due kind.Date = Keyword kind.Date ∷ Date ∷ []
parts_due kind.Scoring = Keyword kind.Scoring ∷ Scoring ∷ []
parts_due kind.Boards = Keyword kind.Boards ∷ Number 1 3 ∷ []
parts_due kind.Mitchell = Keyword kind.Mitchell ∷ Number 2 12 ∷ []
parts_due kind.Movement =
    Keyword kind.Movement ∷ Number 2 12 ∷ Number 1 12 ∷ Number 1 12 ∷ Number 2 24 ∷ Split ∷ []
parts_due kind.Row = Keyword kind.Row ∷ row_part ∷ row_part ∷ row_part ∷ row_part ∷ row_part ∷ []
parts_due kind.Director = Keyword kind.Director ∷ key_part ∷ []
parts_due (kind.Pair index) = Keyword (kind.Pair index) ∷ Number index index ∷ Name ∷ key_part ∷ Name ∷ key_part ∷ []
parts_due kind.End = []

-- the word is in the form of its part
abbrev pub is_formed : Part → List ℕ → Bool
is_formed (Keyword kind) word = bytes_eq word (keyword_of kind)
is_formed Name word = is_name word
is_formed Date word = is_date_form word
is_formed Scoring word = bytes_eq word (codes "MP") || bytes_eq word (codes "IMP")
is_formed (Number low high) word = is_numeral word
is_formed Split word = is_numeral word

-- the number that a word is, of four bytes at most
abbrev pub word_number : List ℕ → Option ℕ
word_number word = if is_numeral word && nat_le (digits_value 10 word) 4294967295 then Some (digits_value 10 word) else None

-- it is a number from the low to the high one
abbrev pub has_within : ℕ → ℕ → Option ℕ → Bool
has_within low high None = false
has_within low high (Some number) = is_between low high number

-- the last pair of the first field is one of so many pairs
abbrev pub is_split : Option ℕ → Option ℕ → Bool
is_split None number = false
is_split (Some pairs) number = has_within 1 pairs number

-- the word, after the previous one, is within the range of its part; of a date that is out of range it is not asked where
abbrev pub is_ranged : List ℕ → Part → List ℕ → Bool
is_ranged previous (Keyword kind) word = true
is_ranged previous Name word = true
is_ranged previous Date word = false
is_ranged previous Scoring word = true
is_ranged previous (Number low high) word = has_within low high (word_number word)
is_ranged previous Split word = is_split (word_number previous) (word_number word)

-- the word is what that is asked of
abbrev pub is_fit : Check → List ℕ → Part → List ℕ → Bool
is_fit Form previous part word = is_formed part word
is_fit Range previous part word = is_ranged previous part word
