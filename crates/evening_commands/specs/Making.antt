-- What the command `evening` makes of a list of names: the evening in memory, and the texts of its files.
use Rattle.std.specs.Prelude.{◌≡◌, ◌⊎◌, ◌≤◌, ◌<◌, ℕ, List, Option, Some, None, length, Result, Ok, Err, IsOkAnd, IsErrAnd, MatchResult}
use Rattle.std.specs.Borrow.{Bor}
use Rattle.bridge_config.specs.ConfigValue.{ConfigValue}
use Rattle.command_line.specs.declared.command.DraftWords.{DraftWords}
use Rattle.evening_draft.specs.declared.wishes.PairNames.{PairNames}
use Rattle.evening_slips.specs.Slips.{slips_text}
use Rattle.line_text.specs.Streams.{Stream, IsUntouched, stream}
use Rattle.page_layout.specs.declared.format.Format.TheVariants.{Html}
use Rattle.evening_commands.specs.Evenings.{ReadsList, Makes}
use Rattle.evening_commands.specs.Fault.{Made, StopsBy, Writes, fault_words}
use Rattle.evening_commands.specs.TextFile.{OfFile}
use Rattle.evening_commands.specs.declared.fault.EveningFault.{EveningFault}
use Rattle.evening_commands.specs.declared.fault.EveningFault.TheVariants.{Read, Write, Address}
use Rattle.evening_commands.specs.declared.making.MadeEvening.{MadeEvening}

-- what is wrong is written, and that is the fault
abbrev pub IsStopped : Stream → Result MadeEvening EveningFault → EveningFault → Type 0
IsStopped output evening fault = IsErrAnd evening (StopsBy output (fault_words fault) fault)

-- the evening holds these pairs and the configuration that was made for them, and nothing is written; or what is wrong is
abbrev pub HoldsMade : List PairNames → Stream → Result MadeEvening EveningFault → Result ConfigValue EveningFault → Type 0
HoldsMade names output evening (Ok configuration) =
    IsOkAnd evening (λ held. (held.names.items ≡ names) × (held.config ≡ configuration)) × IsUntouched output
HoldsMade names output evening (Err fault) = IsStopped output evening fault

-- it holds the pairs of a list, and a configuration that is made as the words wish
abbrev pub HoldsList : DraftWords → Stream → Result MadeEvening EveningFault → Result (List PairNames) EveningFault → Type 0
HoldsList words output evening (Ok names) =
    (made : Result ConfigValue EveningFault) × Makes words names made × HoldsMade names output evening made
HoldsList words output evening (Err fault) = IsStopped output evening fault

-- of a list's text an evening is made, and nothing is written; or what is wrong is. Where no list could be read, nothing is written.
abbrev pub HoldsEvening : DraftWords → Stream → Result MadeEvening EveningFault → Option (List ℕ) → Type 0
HoldsEvening words output evening None = (evening ≡ Err Read) × IsUntouched output
HoldsEvening words output evening (Some text) =
    (found : Result (List PairNames) EveningFault) × ReadsList text found × HoldsList words output evening found

-- the same of the list in a file, unless the address of the pages is longer than slips have room for
abbrev pub MakesEvening : DraftWords → List ℕ → Stream → Result MadeEvening EveningFault → Type 0
MakesEvening words address output evening = ((100 < length address) × IsStopped output evening Address)
    ⊎ ((length address ≤ 100) × OfFile (HoldsEvening words output evening))

-- that was written to the file that was made; or none was, and the fault is that of a write
abbrev pub IntoFound : {F E : Type 0} → (F → Option (List ℕ)) → (Stream → Made → Type 0) → Result F E → Made → Type 0
IntoFound {F = F} contents P made ended = MatchResult made (λ file. (after : F) × P (stream contents file after) ended) (λ _. ended ≡ Err Write)

-- the same of some file: that it is the file of that name no contract can say
abbrev pub IntoFile : (Stream → Made → Type 0) → Made → Type 0
IntoFile P ended = (ended ≡ Err Write) ⊎ ((file : Stream) × P file ended)

-- the page of slips is written, with these names and the address of the pages
abbrev pub WritesSlipsAt : ConfigValue → List PairNames → List ℕ → Stream → Made → Type 0
WritesSlipsAt configuration names address file ended = (shown : Bor (List PairNames)) × (given : Bor (List ℕ))
    × (shown.now ≡ names) × (given.now ≡ address)
    × Writes file (slips_text (record { format = Html; address = Some given }) configuration (Some shown)) ended
