-- A fault of a configuration in words.
use Rattle.std.specs.Prelude.{ℕ, ◌-◌, List, ◌++◌, codes, Option, slice_get}
use Rattle.std.specs.Str.Lines.{lines}
use Rattle.bridge_config.specs.declared.refused.ConfigFault.{ConfigFault}
use Rattle.bridge_config.specs.declared.refused.ConfigRefused.{ConfigRefused}
use Rattle.bridge_config.specs.declared.refused.ConfigRefused.TheVariants.{TooLong, Form, Range, KeyTwice, Movement}
use Rattle.evening_plan.specs.declared.line_kind.LineKind.{LineKind}
use Rattle.evening_plan.specs.Kind.{kind_at}
use Rattle.evening_plan.specs.Rule.{rule_of}
use Rattle.evening_plan.specs.Reason.{reason_of}
use Rattle.evening_plan.specs.Shown.{shown_line}

-- why it is refused, on a line of its own
unfoldable pub reason_line : LineKind → Option (List ℕ) → ConfigRefused → List ℕ
reason_line kind line cause = (codes "refused: " ++ reason_of kind line cause) ++ codes "\n"

-- the line of that number, what it must be, and why it is refused
unfoldable pub line_fault : ℕ → Option (List ℕ) → LineKind → ConfigRefused → List ℕ
line_fault number line kind cause = shown_line number line ++ (rule_of kind ++ reason_line kind line cause)

-- of a text that is too long there is no line
abbrev pub too_long_text : List ℕ
too_long_text = codes "refused: the text has more than 16384 characters\n"

-- what is wrong with a text, by the cause of its fault
abbrev pub fault_by : List (List ℕ) → ℕ → ConfigRefused → List ℕ
fault_by texts number TooLong = too_long_text
fault_by texts number Form = line_fault number (slice_get texts (number - 1)) (kind_at texts number) Form
fault_by texts number Range = line_fault number (slice_get texts (number - 1)) (kind_at texts number) Range
fault_by texts number KeyTwice = line_fault number (slice_get texts (number - 1)) (kind_at texts number) KeyTwice
fault_by texts number (Movement refused) =
    line_fault number (slice_get texts (number - 1)) (kind_at texts number) (Movement refused)

-- What is wrong with a text of that fault: the line, what it must be, and why it is refused.
abbrev pub fault_text : List ℕ → ConfigFault → List ℕ
fault_text text fault = fault_by (lines text) fault.line fault.cause
