-- Reading a configuration line by line, with the first fault that is met.
use Rattle.std.specs.Prelude.{◌≡◌, ℕ, zero, suc, ◌+◌, ◌==◌, nat_lt, if◌then◌else◌, List, [], ◌∷◌, ◌++◌, length, codes, Option, Some, None, Result, Ok, Err}
use Rattle.std.specs.Bool.{MatchBool}
use Rattle.std.specs.Str.Lines.{lines}
use Rattle.bridge_movement.specs.declared.row.Row.{Row}
use Rattle.bridge_movement.specs.declared.shape.Shape.{Shape}
use Rattle.bridge_movement.specs.declared.refused.MovementRefused.{MovementRefused}
use Rattle.bridge_movement.specs.MovementValue.{MovementValue}
use Rattle.bridge_movement.specs.Shape.{row_count}
use Rattle.bridge_movement.specs.Fair.{IsMovement}
use Rattle.bridge_movement.specs.Refused.{IsRefusal, refused_row}
use Rattle.bridge_config.specs.declared.refused.ConfigFault.{ConfigFault}
use Rattle.bridge_config.specs.declared.refused.ConfigRefused.TheVariants.{TooLong, Movement}
use Rattle.bridge_config.specs.ConfigValue.{ConfigValue, Pair, Heading, People}
use Rattle.bridge_config.specs.Spelling.{IsMitchell}
use Rattle.bridge_config.specs.Then.{◌>>=◌}
use Rattle.bridge_config.specs.LineReading.{form_at, name_line, date_line, scoring_line, number_in, number_line, shape_line, row_line, pair_line}
use Rattle.line_text.specs.Words.{words_of, word_after}

-- the next line, which is missing where the text has ended, and those after it
abbrev pub due_line : ℕ → List (List ℕ) → Result (List ℕ × List (List ℕ)) ConfigFault
due_line number [] = Err (form_at number)
due_line number (line ∷ rest) = Ok (line, rest)

-- the first five lines
unfoldable pub heading_in : List (List ℕ) → Result (Heading × List (List ℕ)) ConfigFault
heading_in texts = do
  one ← due_line 1 texts
  event ← name_line 1 (codes "EVENT") one.0
  two ← due_line 2 one.1
  site ← name_line 2 (codes "SITE") two.0
  three ← due_line 3 two.1
  date ← date_line 3 three.0
  four ← due_line 4 three.1
  scoring ← scoring_line 4 four.0
  five ← due_line 5 four.1
  boards ← number_line 5 (codes "BOARDS") 1 3 five.0
  Ok (record { event = event; site = site; date = date; scoring = scoring; boards = boards }, five.1)

-- the rows of that many lines, the first of which has that number
unfoldable pub rows_in : ℕ → ℕ → List (List ℕ) → Result (List Row × List (List ℕ)) ConfigFault
rows_in zero number texts = Ok ([], texts)
rows_in (suc count) number texts = do
  line ← due_line number texts
  row ← row_line number line.0
  others ← rows_in count (number + 1) line.1
  Ok (row ∷ others.0, others.1)

-- the pairs of that many lines, the first of which has that number and is of the pair of that index
unfoldable pub pairs_in : ℕ → ℕ → ℕ → List ℕ → List (List ℕ) → Result (List Pair × List (List ℕ)) ConfigFault
pairs_in zero number index earlier texts = Ok ([], texts)
pairs_in (suc count) number index earlier texts = do
  line ← due_line number texts
  pair ← pair_line number index earlier line.0
  others ← pairs_in count (number + 1) (index + 1) (earlier ++ pair.keys) line.1
  Ok (pair ∷ others.0, others.1)

-- the lines after the movement's
unfoldable pub people_in : ℕ → ℕ → List (List ℕ) → Result People ConfigFault
people_in count number texts = do
  line ← due_line number texts
  director ← number_line number (codes "DIRECTOR") 0 4294967295 line.0
  pairs ← pairs_in count (number + 1) 1 (director ∷ []) line.1
  if length pairs.1 == 0 then Ok (record { director = director; pairs = pairs.0 }) else Err (form_at (number + 1 + count))

-- a movement, the number of the line after its last, and the lines from there
pub record Moved : Type 0 where
  pub movement : MovementValue
  pub number : ℕ
  pub rest : List (List ℕ)

-- The rows after `MOVEMENT` are a movement or are refused as the last was read, at the line of the row at fault.
abbrev pub JudgesRows : Shape → Result (List Row × List (List ℕ)) ConfigFault → Result Moved ConfigFault → Type 0
JudgesRows shape (Err fault) moved = moved ≡ Err fault
JudgesRows shape (Ok rows) (Ok moved) =
    IsMovement shape rows.0
    × (moved ≡ record { movement = record { shape = shape; rows = rows.0 }; number = 7 + row_count shape; rest = rows.1 })
JudgesRows shape (Ok rows) (Err fault) =
    (refused : MovementRefused) × (¬ IsMovement shape rows.0) × IsRefusal shape rows.0 refused
    × (fault ≡ record { line = 6 + refused_row refused; cause = Movement refused })

-- `MOVEMENT` with its rows
abbrev pub ReadsShape : List (List ℕ) → Result Shape ConfigFault → Result Moved ConfigFault → Type 0
ReadsShape texts (Err fault) moved = moved ≡ Err fault
ReadsShape texts (Ok shape) moved = JudgesRows shape (rows_in (row_count shape) 7 texts) moved

-- `MITCHELL` and its number of tables, of which the movement is fair
abbrev pub ReadsMitchell : List (List ℕ) → Result ℕ ConfigFault → Result Moved ConfigFault → Type 0
ReadsMitchell texts (Err fault) moved = moved ≡ Err fault
ReadsMitchell texts (Ok tables) (Ok moved) =
    IsMitchell tables moved.movement × (moved.number ≡ 7) × (moved.rest ≡ texts)
    × IsMovement moved.movement.shape moved.movement.rows
ReadsMitchell texts (Ok tables) (Err fault) = ⊥

-- the sixth line is that of a Mitchell movement, or else that of a shape
abbrev pub ReadsPlan : List ℕ → List (List ℕ) → Option (List ℕ) → Result Moved ConfigFault → Type 0
ReadsPlan line texts None moved = ReadsShape texts (shape_line 6 line) moved
ReadsPlan line texts (Some word) moved = ReadsMitchell texts (number_in 6 2 12 (Some word)) moved

-- the movement of the lines from the sixth on
abbrev pub ReadsMovement : Result (List ℕ × List (List ℕ)) ConfigFault → Result Moved ConfigFault → Type 0
ReadsMovement (Err fault) moved = moved ≡ Err fault
ReadsMovement (Ok six) moved = ReadsPlan six.0 six.1 (word_after (codes "MITCHELL") (words_of six.0)) moved

-- what the parts state together
abbrev pub stated_by : Heading → MovementValue → People → ConfigValue
stated_by heading movement people = record {
  event = heading.event;
  site = heading.site;
  date = heading.date;
  scoring = heading.scoring;
  boards = heading.boards;
  movement = movement;
  director = people.director;
  pairs = people.pairs;
}

-- the configuration of a movement and of the lines after it
abbrev pub after_movement : Heading → Moved → Result ConfigValue ConfigFault
after_movement heading moved =
    people_in moved.movement.shape.pairs moved.number moved.rest
    >>= λ people. Ok (stated_by heading moved.movement people)

-- what the lines after the heading make of a configuration
abbrev pub ReadsAfterHeading : Result (Heading × List (List ℕ)) ConfigFault → Result ConfigValue ConfigFault → Type 0
ReadsAfterHeading (Err fault) read = read ≡ Err fault
ReadsAfterHeading (Ok heading) read =
    (moved : Result Moved ConfigFault) × ReadsMovement (due_line 6 heading.1) moved
    × (read ≡ (moved >>= after_movement heading.0))

-- The configuration of a text, or its first fault: its length, and then line by line.
abbrev pub ReadsConfiguration : List ℕ → Result ConfigValue ConfigFault → Type 0
ReadsConfiguration text read =
    MatchBool (nat_lt 16384 (length text)) (read ≡ Err (record { line = 0; cause = TooLong }))
    (ReadsAfterHeading (heading_in (lines text)) read)
