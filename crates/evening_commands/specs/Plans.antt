-- The command `plan` with a list of names.
use Rattle.std.specs.Prelude.{◌≡◌, ℕ, List, length, Option, None, Some, Result, Ok, Err}
use Rattle.std.specs.Borrow.{Bor}
use Rattle.bridge_config.specs.ConfigValue.{ConfigValue}
use Rattle.evening_draft.specs.declared.wishes.PairNames.{PairNames}
use Rattle.evening_plan.specs.Evening.{shown_evening}
use Rattle.evening_plan.specs.FaultText.{fault_text}
use Rattle.evening_plan.specs.PlanText.{plan_text}
use Rattle.line_text.specs.Streams.{Stream, IsUntouched}
use Rattle.evening_commands.specs.Evenings.{NamesOf}
use Rattle.evening_commands.specs.Fault.{Made, Writes, WritesAndStops, fault_words}
use Rattle.evening_commands.specs.TextFile.{OfFile, OfText}
use Rattle.evening_commands.specs.declared.fault.EveningFault.{EveningFault}
use Rattle.evening_commands.specs.declared.fault.EveningFault.TheVariants.{Read, Config}

-- the plan of a configuration is written, with the names of a list in place of its own; or what is wrong with the list
abbrev pub WritesPlan : ConfigValue → Stream → Made → Result (List PairNames) EveningFault → Type 0
WritesPlan configuration output ended (Ok names) = (shown : Bor (List PairNames)) × (shown.now ≡ names)
    × Writes output (plan_text (shown_evening configuration (Some shown))) ended
WritesPlan configuration output ended (Err fault) = WritesAndStops output (fault_words fault) fault ended

-- with the names of a list's text, which has the configuration's number of pairs
abbrev pub PlansNamed : ConfigValue → Stream → Made → Option (List ℕ) → Type 0
PlansNamed configuration output ended given = (found : Result (List PairNames) EveningFault)
    × NamesOf (length configuration.pairs) found given × WritesPlan configuration output ended found

-- and of a list in a file
abbrev pub PlansWith : Stream → Made → ConfigValue → Type 0
PlansWith output ended configuration = OfFile (PlansNamed configuration output ended)

-- The plan of the configuration that a text spells is written, with these names; or what is wrong, and that is the fault. Where no
-- text could be read, nothing is written.
abbrev pub Plans : Stream → Made → Option (List ℕ) → Type 0
Plans output ended None = (ended ≡ Err Read) × IsUntouched output
Plans output ended (Some text) = OfText (PlansWith output ended)
    (λ fault. WritesAndStops output (fault_text text fault) (Config fault) ended) text
