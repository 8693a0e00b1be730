-- What is read of a configuration's file: the session that begins by its text, or what the command `plan` says of it.
use Rattle.std.specs.Prelude.{◌≡◌, ◌⊎◌, ℕ, List, Option, Some, None, Result, Ok, Err}
use Rattle.club_commands.specs.Basis.{Stream, IsUntouched, SessionValue, NoMemory, Read, RunFault, StreamFault, Config, Store}
pub use Rattle.evening_commands.specs.TextFile.{OfText, OfReader, OfFound, OfFile}
use Rattle.session_rules.specs.State.{opening}
use Rattle.evening_plan.specs.Evening.{evening_of}
use Rattle.evening_plan.specs.PlanText.{plan_text}
use Rattle.evening_plan.specs.FaultText.{fault_text}
use Rattle.club_commands.specs.Ended.{Ended, Writes, WritesAndStops}

-- a text begins a session by the configuration that it spells, unless memory is refused; or its first fault is that of the run
abbrev pub Begins : Result SessionValue RunFault → Option (List ℕ) → Type 0
Begins begun None = begun ≡ Err (StreamFault Read)
Begins begun (Some text) = OfText (λ configuration. (begun ≡ Ok (opening configuration)) ⊎ (begun ≡ Err (Store NoMemory)))
    (λ fault. begun ≡ Err (Config fault)) text

-- The plan of the configuration that a text spells is written; or what is wrong with the text, and that is the fault. Where no
-- text could be read, nothing is written.
abbrev pub Plans : Stream → Ended → Option (List ℕ) → Type 0
Plans output ended None = (ended ≡ Err (StreamFault Read)) × IsUntouched output
Plans output ended (Some text) = OfText (λ configuration. Writes output (plan_text (evening_of configuration)) ended)
    (λ fault. WritesAndStops output (fault_text text fault) (Config fault) ended) text
