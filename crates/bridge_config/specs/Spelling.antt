-- Which texts spell which configuration.
use Rattle.std.specs.Prelude.{◌≡◌, ℕ, ◌+◌, ◌≤◌, ◌⊎◌, List, [], ◌∷◌, ◌++◌, length, map, codes, All}
use Rattle.std.specs.Fmt.{decimal}
use Rattle.std.specs.Str.Lines.{lines}
use Rattle.line_text.specs.Words.{spaced}
use Rattle.bridge_cards.specs.declared.scoring.Scoring.{Scoring}
use Rattle.bridge_cards.specs.declared.scoring.Scoring.TheVariants.{MatchPoints, Imps}
use Rattle.bridge_movement.specs.declared.row.Row.{Row}
use Rattle.bridge_movement.specs.declared.shape.Shape.{Shape}
use Rattle.bridge_movement.specs.MovementValue.{MovementValue}
use Rattle.bridge_movement.specs.Shape.{IsBetween, row_count}
use Rattle.bridge_movement.specs.Mitchell.{mitchell_shape, FollowsMitchell}
use Rattle.bridge_config.specs.ConfigValue.{ConfigValue, Pair, Heading, heading_of, People, people_of}
use Rattle.bridge_config.specs.Limits.{IsConfiguration}

-- the word of a scoring
abbrev pub scoring_word : Scoring → List ℕ
scoring_word MatchPoints = codes "MP"
scoring_word Imps = codes "IMP"

-- the first five lines
abbrev pub heading_lines : Heading → List (List ℕ)
heading_lines heading =
    spaced (codes "EVENT" ∷ heading.event ∷ [])
    ∷ spaced (codes "SITE" ∷ heading.site ∷ [])
    ∷ spaced (codes "DATE" ∷ heading.date ∷ [])
    ∷ spaced (codes "SCORING" ∷ scoring_word heading.scoring ∷ [])
    ∷ spaced (codes "BOARDS" ∷ decimal heading.boards ∷ [])
    ∷ []

-- the line of a Mitchell movement
abbrev pub mitchell_line : ℕ → List ℕ
mitchell_line tables = spaced (codes "MITCHELL" ∷ decimal tables ∷ [])

-- the line of a shape
abbrev pub shape_text : Shape → List ℕ
shape_text shape =
    spaced (codes "MOVEMENT" ∷ decimal shape.tables ∷ decimal shape.rounds ∷ decimal shape.sets ∷ decimal shape.pairs
    ∷ decimal shape.split ∷ [])

-- the line of a row
abbrev pub row_text : Row → List ℕ
row_text row =
    spaced (codes "ROW" ∷ decimal row.round ∷ decimal row.table ∷ decimal row.ns ∷ decimal row.ew ∷ decimal row.set ∷ [])

-- the Mitchell movement of that many tables
pub record IsMitchell (tables : ℕ) (movement : MovementValue) : Type 0 where
  pub tables_within : IsBetween 2 12 tables
  pub shape : movement.shape ≡ mitchell_shape tables
  pub count : length movement.rows ≡ row_count movement.shape
  pub rows : FollowsMitchell tables movement.rows

-- the lines are the one of a Mitchell movement, or the shape and a line for each row
abbrev pub SpellsMovement : MovementValue → List (List ℕ) → Type 0
SpellsMovement movement texts =
    ((tables : ℕ) × IsMitchell tables movement × (texts ≡ mitchell_line tables ∷ []))
    ⊎ (texts ≡ shape_text movement.shape ∷ map row_text movement.rows)

-- each player's name and key in turn
abbrev pub player_words : List (List ℕ) → List ℕ → List (List ℕ)
player_words (name ∷ names) (key ∷ keys) = name ∷ decimal key ∷ player_words names keys
player_words _ _ = []

-- the line of a pair
abbrev pub pair_text : ℕ → Pair → List ℕ
pair_text index pair = spaced (codes "PAIR" ∷ decimal index ∷ player_words pair.names pair.keys)

-- the lines of pairs, the first of which has that number
abbrev pub pair_lines : ℕ → List Pair → List (List ℕ)
pair_lines index [] = []
pair_lines index (pair ∷ pairs) = pair_text index pair ∷ pair_lines (index + 1) pairs

-- the lines after the movement's
abbrev pub people_lines : People → List (List ℕ)
people_lines people = spaced (codes "DIRECTOR" ∷ decimal people.director ∷ []) ∷ pair_lines 1 people.pairs

-- The lines of the text are those of the configuration, which is within the limits. No line has more than 128 bytes, and
-- the text has at most 16,384.
pub record Spells (text : List ℕ) (configuration : ConfigValue) : Type 0 where
  pub length_within : length text ≤ 16384
  pub lines_within : All (λ line. length line ≤ 128) (lines text)
  pub movement_texts : List (List ℕ)
  pub movement : SpellsMovement configuration.movement movement_texts
  pub whole : lines text ≡ heading_lines (heading_of configuration)
      ++ (movement_texts ++ people_lines (people_of configuration))
  pub limits : IsConfiguration configuration
