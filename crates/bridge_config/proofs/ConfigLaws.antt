-- What is read of a text, as the contract of the reader says it.
use Rattle.std.proofs.Common.{◌≡◌, ℕ, List, Result, Ok, Err, sym}
use Rattle.std.specs.Prelude.{IfOk}
use Rattle.bridge_config.specs.declared.refused.ConfigFault.{ConfigFault}
use Rattle.bridge_config.specs.ConfigValue.{ConfigValue}
use Rattle.bridge_config.specs.Spelling.{Spells}
use Rattle.bridge_config.specs.LineReading.{SeenAs}
use Rattle.bridge_config.specs.Reading.{ReadsConfiguration}
use Rattle.bridge_config.proofs.TextLaws.{read_is_spelled, spelled_is_read}

-- what is read is spelled so
pub found_of : (text : List ℕ) (read : Result ConfigValue ConfigFault) → ReadsConfiguration text read → IfOk read (Spells text)
found_of text (Ok configuration) reads = read_is_spelled text configuration reads
found_of text (Err fault) reads = tt

-- a configuration that was read is what the reader gives
gives_itself : (read : Result ConfigValue ConfigFault) (configuration : ConfigValue) → read ≡ Ok configuration → SeenAs (λ c. c) read (Ok configuration)
gives_itself (Ok c) configuration is = sym is
gives_itself (Err fault) configuration is = absurd cc

-- what is spelled so is read
pub only_of : (text : List ℕ) (configuration : ConfigValue) (read : Result ConfigValue ConfigFault) → Spells text configuration → ReadsConfiguration text read → SeenAs (λ c. c) read (Ok configuration)
only_of text configuration read spelled reads = gives_itself read configuration (spelled_is_read text configuration read spelled reads)
