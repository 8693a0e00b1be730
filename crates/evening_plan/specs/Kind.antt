-- Which line of a configuration is due.
use Rattle.std.specs.Prelude.{ℕ, ◌+◌, ◌-◌, ◌*◌, ◌==◌, nat_lt, nat_le, Bool, false, ◌&&◌, if◌then◌else◌, List, [], ◌∷◌, codes, Option, None, Some, slice_get}
use Rattle.std.specs.Str.{bytes_eq}
use Rattle.std.specs.Str.Parse.{digits_value}
use Rattle.line_text.specs.Words.{Five, spaced_words, words_of, word_after, five_after}
use Rattle.line_text.specs.Numeral.{is_numeral}
use Rattle.evening_plan.specs.declared.line_kind.Sizes.{Sizes}
use Rattle.evening_plan.specs.declared.line_kind.LineKind.{LineKind}
use Rattle.evening_plan.specs.declared.line_kind.LineKind.TheVariants.{Event, Site, Date, Scoring, Boards, Mitchell, Movement, Row, Director, Pair, End}

-- the number of a numeral up to a limit; 0 where it is none
abbrev pub number_up_to : ℕ → List ℕ → ℕ
number_up_to high word = if is_numeral word && nat_le (digits_value 10 word) high then digits_value 10 word else 0

-- how many rows and pairs a shape has: the words are tables, rounds, sets, pairs and the last pair of the first field
abbrev pub shape_sizes : Option Five → Sizes
shape_sizes None = record { rows = 0; pairs = 0 }
shape_sizes (Some words) =
    record { rows = number_up_to 12 words.second * number_up_to 12 words.first; pairs = number_up_to 24 words.fourth }

-- how many a Mitchell movement has of that many tables, or else of a shape
abbrev pub plan_sizes : Option (List ℕ) → Option Five → Sizes
plan_sizes None words = shape_sizes words
plan_sizes (Some tables) words = record { rows = 0; pairs = 2 * number_up_to 12 tables }

-- those of the sixth line
abbrev pub sizes_of : Option (List ℕ) → Sizes
sizes_of None = record { rows = 0; pairs = 0 }
sizes_of (Some line) =
    plan_sizes (word_after (codes "MITCHELL") (words_of line)) (five_after (codes "MOVEMENT") (words_of line))

-- the first word is the keyword
abbrev pub begins_with : List ℕ → List (List ℕ) → Bool
begins_with keyword [] = false
begins_with keyword (word ∷ words) = bytes_eq word keyword

-- which of the two movements the sixth line is
abbrev pub movement_kind : Option (List ℕ) → LineKind
movement_kind None = Movement
movement_kind (Some line) = if begins_with (codes "MITCHELL") (spaced_words line) then Mitchell else Movement

-- the lines after the sixth, by their index: the rows, the director, the pairs, and no more
abbrev pub kind_after : Sizes → ℕ → LineKind
kind_after sizes index =
    if nat_lt index sizes.rows then Row
    else if index == sizes.rows then Director
    else if nat_le index (sizes.rows + sizes.pairs) then Pair (index - sizes.rows)
    else End

-- The line of that number, from 1: the first six by their numbers, and the others by what the sixth states.
abbrev pub kind_at : List (List ℕ) → ℕ → LineKind
kind_at texts number =
    if nat_le number 1 then Event
    else if number == 2 then Site
    else if number == 3 then Date
    else if number == 4 then Scoring
    else if number == 5 then Boards
    else if number == 6 then movement_kind (slice_get texts 5)
    else kind_after (sizes_of (slice_get texts 5)) (number - 7)
