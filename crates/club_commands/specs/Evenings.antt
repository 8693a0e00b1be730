-- How the commands `draft` and `slips` end, and `plan` with a list of names or without.
use Rattle.std.specs.Prelude.{◌≡◌, ℕ, List, Option, None, Some, Ok, Err}
use Rattle.command_line.specs.declared.command.DraftWords.{DraftWords}
use Rattle.command_line.specs.declared.command.SlipWords.{SlipWords}
use Rattle.evening_commands.specs.Evenings.{Drafts, Slips}
use Rattle.evening_commands.specs.Fault.{Made}
use Rattle.evening_commands.specs.Plans as named
use Rattle.evening_commands.specs.TextFile.{OfFile}
use Rattle.club_commands.specs.Basis.{Bor, Stream}
use Rattle.club_commands.specs.ConfigFile.{Plans}
use Rattle.club_commands.specs.Ended.{Ended}
use Rattle.club_commands.specs.declared.fault.RunFault.TheVariants.{Evening}

-- a run ended as that did, of which the fault is the run's
abbrev pub EndsAs : Made → Ended → Type 0
EndsAs (Ok _) ended = ended ≡ Ok tt
EndsAs (Err fault) ended = ended ≡ Err (Evening fault)

-- the configuration of an evening is written for the pairs of the list in a file
abbrev pub HasDrafted : DraftWords → Stream → Ended → Type 0
HasDrafted words output ended = (made : Made) × OfFile (Drafts words output made) × EndsAs made ended

-- the slips are written of the configuration in a file
abbrev pub HasSlips : SlipWords → Stream → Ended → Type 0
HasSlips words output ended = (made : Made) × OfFile (Slips words output made) × EndsAs made ended

-- the plan of the configuration in a file is written, with its own names or those of a list in another file
abbrev pub HasPlanned : Option (Bor (List ℕ)) → Stream → Ended → Type 0
HasPlanned None output ended = OfFile (Plans output ended)
HasPlanned (Some names) output ended = (made : Made) × OfFile (named.Plans output made) × EndsAs made ended
