-- The text of a configuration.
use Rattle.std.specs.Prelude.{ℕ, List, [], ◌∷◌, ◌++◌, map, flat_map, Result}
use Rattle.line_text.specs.Streams.{Stream, Written}
use Rattle.std.specs.declared.io.Error.{Error}
use Rattle.line_text.specs.declared.words.Five.{Five}
use Rattle.bridge_movement.specs.MovementValue.{MovementValue}
use Rattle.bridge_config.specs.ConfigValue.{ConfigValue, heading_of, people_of}
use Rattle.bridge_config.specs.Spelling.{heading_lines, people_lines, mitchell_line, shape_text, row_text, IsMitchell, Spells}
use Rattle.evening_draft.specs.declared.form.MovementForm.{MovementForm}
use Rattle.evening_draft.specs.declared.form.MovementForm.TheVariants.{Mitchell, Rows}

-- five words, in order
abbrev pub words_of : Five → List (List ℕ)
words_of five = five.first.now ∷ five.second.now ∷ five.third.now ∷ five.fourth.now ∷ five.fifth.now ∷ []

-- a line and its end
unfoldable pub ended : List ℕ → List ℕ
ended line = line ++ (10 ∷ [])

-- lines, each with its end
abbrev pub text_of : List (List ℕ) → List ℕ
text_of texts = flat_map ended texts

-- the lines of a movement in that form: one for a Mitchell, or its shape and a line for each row
abbrev pub movement_lines : MovementForm → MovementValue → List (List ℕ)
movement_lines Mitchell movement = mitchell_line movement.shape.tables ∷ []
movement_lines Rows movement = shape_text movement.shape ∷ map row_text movement.rows

-- a Mitchell may be stated in one line, and each movement by its rows
abbrev pub IsFormOf : MovementForm → MovementValue → Type 0
IsFormOf Mitchell movement = IsMitchell movement.shape.tables movement
IsFormOf Rows movement = Unit {0}

-- the text of a configuration, its movement in that form
abbrev pub config_text : MovementForm → ConfigValue → List ℕ
config_text form configuration =
    text_of (heading_lines (heading_of configuration))
    ++ (text_of (movement_lines form configuration.movement) ++ text_of (people_lines (people_of configuration)))

-- the text of the configuration was written, or a prefix of it: and what spells the configuration is read as that
pub record IsConfigWritten (configuration : ConfigValue) (writer : Stream) (result : Result (Unit {0}) Error) : Type 0 where
  pub form : MovementForm
  pub of : IsFormOf form configuration.movement
  pub written : Written writer (config_text form configuration) result
  pub spells : Spells (config_text form configuration) configuration
