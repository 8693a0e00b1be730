-- What complete lines ask for.
use Rattle.std.specs.Prelude.{◌≡◌, ℕ, Bool, true, false, List, Option, Some, None}
use Rattle.std.specs.Str.Lines.{strip_carriage_return}
use Rattle.line_text.specs.Lines.{is_long}
use Rattle.table_server.specs.declared.asked.Asked.{Asked as AskedType}
use Rattle.table_server.specs.declared.asked.Asked.TheVariants.{BadLine, LongLine}
use Rattle.table_server.specs.declared.command.Command.{Command}
use Rattle.table_server.specs.LineCommand.{AsksFor, ReadsLine}
use Rattle.line_text.specs.Words.{spaced_words}
use Rattle.table_server.specs.declared.line_set.LineSet.{LineSet}
use Rattle.table_server.specs.declared.line_set.LineSet.TheVariants.{Protocol, Corrections}
use Rattle.table_server.specs.CorrectionLine.{correction_of, asked_to_correct}

-- a line that states no command is a bad one
abbrev pub AsksIf : Option Command → AskedType → Type 0
AsksIf None asked = asked ≡ BadLine
AsksIf (Some command) asked = AsksFor command asked

-- a line of the protocol, without its ending, asks for what its command does, if it states one
pub record AsksByWords (line : List ℕ) (asked : AskedType) : Type 0 where
  pub found : Option Command
  pub reads : ReadsLine line found
  pub asks : AsksIf found asked

-- by the set that the line is of
abbrev pub AsksOf : LineSet → List ℕ → AskedType → Type 0
AsksOf Protocol line asked = AsksByWords line asked
AsksOf Corrections line asked = asked ≡ asked_to_correct (correction_of (spaced_words line))

-- a line that is too long is answered as that, whatever its words are
abbrev pub AsksBy : LineSet → Bool → List ℕ → AskedType → Type 0
AsksBy lines true line asked = asked ≡ LongLine
AsksBy lines false line asked = AsksOf lines (strip_carriage_return line) asked

-- what a complete line of a set asks for
abbrev pub AsksIn : LineSet → List ℕ → AskedType → Type 0
AsksIn lines line asked = AsksBy lines (is_long line) line asked

-- what a complete line of the protocol asks for
abbrev pub Asks : List ℕ → AskedType → Type 0
Asks = AsksIn Protocol
