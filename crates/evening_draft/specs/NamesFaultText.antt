-- A fault of a list of names in words.
use Rattle.std.specs.Prelude.{List, ℕ, ◌++◌, codes}
use Rattle.std.specs.Fmt.{decimal}
use Rattle.evening_draft.specs.declared.names_refused.NamesFault.{NamesFault}
use Rattle.evening_draft.specs.declared.names_refused.NamesRefused.{NamesRefused}
use Rattle.evening_draft.specs.declared.names_refused.NamesRefused.TheVariants.{OneName, NoName, NotText, Character, LongName, TooManyPairs, TooFewPairs, TooManyLines}

-- what the line or the list must be
abbrev pub due_of : NamesRefused → List ℕ
due_of TooManyPairs = codes "due: 3 to 24 pairs, a line each\n"
due_of TooFewPairs = codes "due: 3 to 24 pairs, a line each\n"
due_of TooManyLines = codes "due: a list of at most 999 lines\n"
due_of _ = codes "due: two names of 1 to 40 characters, with & or a tab between\n"

-- why it is refused
abbrev pub reason_of : NamesRefused → List ℕ
reason_of OneName = codes "refused: there is no & and no tab in it\n"
reason_of NoName = codes "refused: a name is empty\n"
reason_of NotText = codes "refused: a name is no text in UTF-8\n"
reason_of Character = codes "refused: a character in a name is none of a name\n"
reason_of LongName = codes "refused: a name has more than 40 characters\n"
reason_of TooManyPairs = codes "refused: this is the 25th pair\n"
reason_of TooFewPairs = codes "refused: the list ends before the third pair\n"
reason_of TooManyLines = codes "refused: this is the line after the last that there may be\n"

-- the number of the line, what is due and why it is refused
unfoldable pub fault_text : NamesFault → List ℕ
fault_text fault =
    (((codes "line " ++ decimal fault.line) ++ codes "\n") ++ due_of fault.cause) ++ reason_of fault.cause
