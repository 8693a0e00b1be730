-- A line that reading refuses has a word that is named.
use Rattle.std.specs.Prelude.{◌≡◌, ◌≢◌, ℕ, false, List, [], codes, Result, Ok, Err, None}
use Rattle.line_text.specs.Lines.{is_long}
use Rattle.line_text.specs.Words.{spaced_words}
use Rattle.bridge_config.specs.declared.refused.ConfigFault.{ConfigFault}
use Rattle.bridge_config.specs.declared.refused.ConfigRefused.TheVariants as refused
use Rattle.bridge_config.specs.LineReading.{name_line, date_line, scoring_line, number_line, shape_line, row_line, pair_line}
use Rattle.evening_plan.specs.declared.line_kind.LineKind.{LineKind}
use Rattle.evening_plan.specs.declared.line_kind.LineKind.TheVariants as kind
use Rattle.evening_plan.specs.declared.part.Check.TheVariants.{Form}
use Rattle.evening_plan.specs.Part.{parts_due}
use Rattle.evening_plan.specs.Misfit.{first_misfit}

-- what is read of a line, or a fault, but not that it is out of form
abbrev pub IsInForm : {X : Type 0} → Result X ConfigFault → Type 0
IsInForm (Ok x) = Unit {0}
IsInForm (Err fault) = fault.cause ≢ refused.Form

-- reading finds the line of that number, behind which these keys stand, in the form of its kind
abbrev pub IsReadAs : LineKind → ℕ → List ℕ → List ℕ → Type 0
IsReadAs kind.Event number earlier line = IsInForm (name_line number (codes "EVENT") line)
IsReadAs kind.Site number earlier line = IsInForm (name_line number (codes "SITE") line)
IsReadAs kind.Date number earlier line = IsInForm (date_line number line)
IsReadAs kind.Scoring number earlier line = IsInForm (scoring_line number line)
IsReadAs kind.Boards number earlier line = IsInForm (number_line number (codes "BOARDS") 1 3 line)
IsReadAs kind.Mitchell number earlier line = IsInForm (number_line number (codes "MITCHELL") 2 12 line)
IsReadAs kind.Movement number earlier line = IsInForm (shape_line number line)
IsReadAs kind.Row number earlier line = IsInForm (row_line number line)
IsReadAs kind.Director number earlier line = IsInForm (number_line number (codes "DIRECTOR") 0 4294967295 line)
IsReadAs (kind.Pair index) number earlier line = IsInForm (pair_line number index earlier line)
IsReadAs kind.End number earlier line = ⊥

-- A line of at most 128 bytes that reading finds out of form has a word that is named: where none is, it is in form.
abbrev pub NamesEachFault : Type 0
NamesEachFault = (due : LineKind) (number : ℕ) (earlier line : List ℕ) → is_long line ≡ false
    → first_misfit Form 1 [] (parts_due due) (spaced_words line) ≡ None → IsReadAs due number earlier line
