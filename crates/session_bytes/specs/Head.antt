-- What the code reads of the parts before those of the boards.
use Rattle.std.specs.Prelude.{◌≡◌, ◌≢◌, ◌++◌, ◌<◌, ◌≤◌, ◌+◌, ◌*◌, ℕ, true, All, length, List, ◌∷◌, map, drop, take, slice_index}
use Rattle.bridge_movement.specs.declared.shape.Shape.{Shape}
use Rattle.bridge_movement.specs.Shape.{row_count}
use Rattle.bridge_movement.specs.Fair.{IsMovement}
use Rattle.bridge_config.specs.ConfigValue.{ConfigValue}
use Rattle.bridge_config.specs.Limits.{is_name, is_date_form, IsConfiguration}
use Rattle.session_bytes.specs.declared.heading.Heading.{Heading}
use Rattle.session_bytes.specs.Parts.{configuration_part, movement_part, pair_part}
use Rattle.session_bytes.specs.PartsRead.{text_in, after_text, scoring_at, numbers_in, shape_of_numbers, rows_of_part, key_in, second_player, configuration_in}

-- the parts before those of the boards: of the configuration and the round, the movement, and the pairs
abbrev pub head_parts : ConfigValue → ℕ → List (List ℕ)
head_parts configuration round =
    configuration_part configuration round ∷ movement_part configuration.movement.rows ∷ map pair_part configuration.pairs

-- the round is one of the configuration, or the one after the last
abbrev pub IsRound : ConfigValue → ℕ → Type 0
IsRound configuration round = (1 ≤ round) × (round ≤ configuration.movement.shape.rounds + 1)

-- as many parts as a session of the configuration has for its boards, and for its plays
abbrev pub board_part_count : ConfigValue → ℕ
board_part_count configuration =
    configuration.movement.shape.sets * configuration.boards + length configuration.movement.rows * configuration.boards

-- The parts begin with those of a configuration and a round of it, and are as many as its sessions have.
pub record HasHead (parts : List (List ℕ)) : Type 0 where
  pub configuration : ConfigValue
  pub round : ℕ
  pub limits : IsConfiguration configuration
  pub within : IsRound configuration round
  pub begins : head_parts configuration round ≡ take (2 + length configuration.pairs) parts
  pub count : length parts ≡ 2 + length configuration.pairs + board_part_count configuration

-- the fields are what the first part names
pub record IsHeadingOf (part : List ℕ) (heading : Heading) : Type 0 where
  pub event : heading.event.bytes ≡ text_in part
  pub site : heading.site.bytes ≡ text_in (after_text part)
  pub date : heading.date.bytes ≡ take 10 (after_text (after_text part))
  pub scoring : heading.scoring ≡ scoring_at (slice_index (numbers_in part) 0)
  pub boards : heading.boards ≡ slice_index (numbers_in part) 1
  pub shape : heading.shape ≡ shape_of_numbers (numbers_in part)
  pub director : heading.director.0 ≡ key_in (drop 7 (numbers_in part))
  pub round : heading.round ≡ slice_index (numbers_in part) 11

-- the first part of a configuration is in form
pub record IsHeadingPart (part : List ℕ) : Type 0 where
  pub event : is_name (text_in part) ≡ true
  pub site : is_name (text_in (after_text part)) ≡ true
  pub long : length (after_text (after_text part)) ≡ 22
  pub date : is_date_form (take 10 (after_text (after_text part))) ≡ true
  pub scoring : slice_index (numbers_in part) 0 < 2

-- the part of a movement of that shape states one
pub record IsMovementPart (shape : Shape) (part : List ℕ) : Type 0 where
  pub long : length part ≡ row_count shape * 3
  pub movement : IsMovement shape (rows_of_part shape part)

-- the part of a pair is in form
pub record IsPairPart (part : List ℕ) : Type 0 where
  pub first : is_name (text_in part) ≡ true
  pub key : 4 ≤ length (after_text part)
  pub second : is_name (text_in (second_player part)) ≡ true
  pub last : length (after_text (second_player part)) ≡ 4

-- the first part, the second, and those of the pairs are in form, and what they name is a configuration
pub record AreHeadParts (first second : List ℕ) (rest : List (List ℕ)) : Type 0 where
  pub heading : IsHeadingPart first
  pub long : length second ≡ row_count (shape_of_numbers (numbers_in first)) * 3
  pub enough : (shape_of_numbers (numbers_in first)).pairs ≤ length rest
  pub pairs : All IsPairPart (take (shape_of_numbers (numbers_in first)).pairs rest)
  pub configured : IsConfiguration (configuration_in first second rest)

-- the first part and the second are those of the configuration and the round
pub record HasHeading (configuration : ConfigValue) (round : ℕ) (one other : List ℕ) : Type 0 where
  pub first : configuration_part configuration round ≡ one
  pub second : movement_part configuration.movement.rows ≡ other

-- the parts begin with those of the configuration and the round, which is one of it
pub record IsHead (configuration : ConfigValue) (now : ℕ) (first second : List ℕ) (rest : List (List ℕ)) : Type 0 where
  pub round : IsRound configuration now
  pub heading : HasHeading configuration now first second
  pub pairs : map pair_part configuration.pairs ≡ take (length configuration.pairs) rest

-- the parts begin with those of no configuration and round of it
abbrev pub NoHead : List ℕ → List ℕ → List (List ℕ) → Type 0
NoHead first second rest =
    (configuration : ConfigValue) (round : ℕ) (boards : List (List ℕ)) → IsConfiguration configuration → IsRound configuration round →
    configuration_part configuration round ≡ first → movement_part configuration.movement.rows ≡ second →
    map pair_part configuration.pairs ++ boards ≢ rest

-- the parts begin with those of no configuration and round of it
abbrev pub AreOfNoHead : List (List ℕ) → Type 0
AreOfNoHead parts = (configuration : ConfigValue) (round : ℕ) (boards : List (List ℕ)) → IsConfiguration configuration → IsRound configuration round →
    head_parts configuration round ++ boards ≢ parts
