-- Reading one line, with the first fault that is met.
use Rattle.std.specs.Prelude.{◌≡◌, ℕ, Bool, not, ◌&&◌, ◌||◌, ◌==◌, if◌then◌else◌, List, [], ◌∷◌, codes, Option, Some, None, Result, Ok, Err}
use Rattle.std.specs.Str.{bytes_eq}
use Rattle.std.specs.Str.Parse.{digits_value}
use Rattle.line_text.specs.Words.{Five, words_of, word_after, five_after}
use Rattle.line_text.specs.Numeral.{is_numeral}
use Rattle.bridge_cards.specs.declared.scoring.Scoring.{Scoring}
use Rattle.bridge_cards.specs.declared.scoring.Scoring.TheVariants.{MatchPoints, Imps}
use Rattle.bridge_movement.specs.declared.row.Row.{Row}
use Rattle.bridge_movement.specs.declared.shape.Shape.{Shape}
use Rattle.bridge_config.specs.declared.refused.ConfigFault.{ConfigFault}
use Rattle.bridge_config.specs.declared.refused.ConfigRefused.TheVariants.{Form, Range, KeyTwice}
use Rattle.bridge_config.specs.ConfigValue.{Pair}
use Rattle.bridge_config.specs.Then.{◌>>=◌}
use Rattle.bridge_config.specs.Limits.{is_name, is_date_form, is_date_within, is_between, stands_in}

-- what a function returned, seen as the view of it, is what reading gives
abbrev pub SeenAs : {X Y : Type 0} → (X → Y) → Result X ConfigFault → Result Y ConfigFault → Type 0
SeenAs view (Ok x) read = read ≡ Ok (view x)
SeenAs view (Err fault) read = read ≡ Err fault

-- the line is out of form
abbrev pub form_at : ℕ → ConfigFault
form_at number = record { line = number; cause = Form }

-- something in the line is out of its range
abbrev pub range_at : ℕ → ConfigFault
range_at number = record { line = number; cause = Range }

-- the number of a numeral, which is to lie between two others
abbrev pub within : ℕ → ℕ → ℕ → List ℕ → Result ℕ ConfigFault
within number low high word =
    if is_between low high (digits_value 10 word) then Ok (digits_value 10 word) else Err (range_at number)

-- What the line of that number states, or its fault: first its form, and then its range.

-- the word as a name
abbrev pub name_in : ℕ → Option (List ℕ) → Result (List ℕ) ConfigFault
name_in number None = Err (form_at number)
name_in number (Some word) = if is_name word then Ok word else Err (form_at number)

-- a keyword and a name
abbrev pub name_line : ℕ → List ℕ → List ℕ → Result (List ℕ) ConfigFault
name_line number keyword line = name_in number (word_after keyword (words_of line))

-- the word as a date
abbrev pub date_in : ℕ → Option (List ℕ) → Result (List ℕ) ConfigFault
date_in number None = Err (form_at number)
date_in number (Some word) =
    if not (is_date_form word) then Err (form_at number)
    else if is_date_within word then Ok word
    else Err (range_at number)

-- `DATE` and a date
abbrev pub date_line : ℕ → List ℕ → Result (List ℕ) ConfigFault
date_line number line = date_in number (word_after (codes "DATE") (words_of line))

-- the word as a scoring
abbrev pub scoring_in : ℕ → Option (List ℕ) → Result Scoring ConfigFault
scoring_in number None = Err (form_at number)
scoring_in number (Some word) =
    if bytes_eq word (codes "MP") then Ok MatchPoints
    else if bytes_eq word (codes "IMP") then Ok Imps
    else Err (form_at number)

-- `SCORING`, and `MP` or `IMP`
abbrev pub scoring_line : ℕ → List ℕ → Result Scoring ConfigFault
scoring_line number line = scoring_in number (word_after (codes "SCORING") (words_of line))

-- the word as a number from low to high
abbrev pub number_in : ℕ → ℕ → ℕ → Option (List ℕ) → Result ℕ ConfigFault
number_in number low high None = Err (form_at number)
number_in number low high (Some word) = if is_numeral word then within number low high word else Err (form_at number)

-- a keyword and a number
abbrev pub number_line : ℕ → List ℕ → ℕ → ℕ → List ℕ → Result ℕ ConfigFault
number_line number keyword low high line = number_in number low high (word_after keyword (words_of line))

-- five numbers
abbrev pub are_numerals : Five → Bool
are_numerals words =
    is_numeral words.first && is_numeral words.second && is_numeral words.third && is_numeral words.fourth
    && is_numeral words.fifth

-- the five numbers as a shape
unfoldable pub shape_within : ℕ → Five → Result Shape ConfigFault
shape_within number words = do
  tables ← within number 2 12 words.first
  rounds ← within number 1 12 words.second
  sets ← within number 1 12 words.third
  pairs ← within number 2 24 words.fourth
  split ← within number 1 pairs words.fifth
  Ok (record { tables = tables; rounds = rounds; sets = sets; pairs = pairs; split = split })

-- the words as a shape
abbrev pub shape_in : ℕ → Option Five → Result Shape ConfigFault
shape_in number None = Err (form_at number)
shape_in number (Some words) = if are_numerals words then shape_within number words else Err (form_at number)

-- `MOVEMENT`, and the numbers of tables, rounds, sets and pairs, and the last pair of the first field
abbrev pub shape_line : ℕ → List ℕ → Result Shape ConfigFault
shape_line number line = shape_in number (five_after (codes "MOVEMENT") (words_of line))

-- the five numbers as a row
unfoldable pub row_within : ℕ → Five → Result Row ConfigFault
row_within number words = do
  round ← within number 0 255 words.first
  table ← within number 0 255 words.second
  ns ← within number 0 255 words.third
  ew ← within number 0 255 words.fourth
  set ← within number 0 255 words.fifth
  Ok (record { round = round; table = table; ns = ns; ew = ew; set = set })

-- the words as a row
abbrev pub row_in : ℕ → Option Five → Result Row ConfigFault
row_in number None = Err (form_at number)
row_in number (Some words) = if are_numerals words then row_within number words else Err (form_at number)

-- `ROW`, and the numbers of round, table, both pairs and the set
abbrev pub row_line : ℕ → List ℕ → Result Row ConfigFault
row_line number line = row_in number (five_after (codes "ROW") (words_of line))

-- a number, a name, a number, a name and a number
abbrev pub is_pair_form : Five → Bool
is_pair_form words =
    is_numeral words.first && is_name words.second && is_numeral words.third && is_name words.fourth
    && is_numeral words.fifth

-- two keys, neither of which stands earlier
abbrev pub keys_after : ℕ → List ℕ → ℕ → ℕ → Result (List ℕ) ConfigFault
keys_after number earlier first second =
    if stands_in earlier first || stands_in earlier second || first == second
    then Err (record { line = number; cause = KeyTwice }) else Ok (first ∷ second ∷ [])

-- the words as the pair of that index, whose keys stand nowhere earlier
unfoldable pub pair_within : ℕ → ℕ → List ℕ → Five → Result Pair ConfigFault
pair_within number index earlier words = do
  own ← within number index index words.first
  first ← within number 0 4294967295 words.third
  second ← within number 0 4294967295 words.fifth
  keys ← keys_after number earlier first second
  Ok (record { names = words.second ∷ words.fourth ∷ []; keys = keys })

-- the words as a pair
abbrev pub pair_in : ℕ → ℕ → List ℕ → Option Five → Result Pair ConfigFault
pair_in number index earlier None = Err (form_at number)
pair_in number index earlier (Some words) =
    if is_pair_form words then pair_within number index earlier words else Err (form_at number)

-- `PAIR`, the pair's number, and a name and a key for each player, after the earlier keys
abbrev pub pair_line : ℕ → ℕ → List ℕ → List ℕ → Result Pair ConfigFault
pair_line number index earlier line = pair_in number index earlier (five_after (codes "PAIR") (words_of line))
