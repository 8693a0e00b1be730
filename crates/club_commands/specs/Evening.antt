-- The command `evening`: a session that stands on a disk is gone on with, or an evening is made; and its pages are shown.
use Rattle.std.specs.Prelude.{◌≡◌, ◌≢◌, ◌⊎◌, ◌++◌, ℕ, List, codes, Option, Some, None, Result, Ok, Err}
use Rattle.club_commands.specs.Basis.{Bor, Stream, IsUntouched, Disk, file_disk, header_in, SessionValue, ClubDisk, RefusesReading, StoreFault, TooSmall, DiskFault, NotFormatted, NoMemory, RunFault, Store}
use Rattle.bridge_config.specs.ConfigValue.{ConfigValue}
use Rattle.club_commands.specs.Ended.{Ended}
use Rattle.club_commands.specs.Evenings.{EndsAs}
use Rattle.club_commands.specs.Web.{host_at}
use Rattle.club_commands.specs.Listed.{WhereListed}
use Rattle.club_commands.specs.Works.{HasWorked, HasListed}
use Rattle.club_commands.specs.declared.fault.RunFault.TheVariants.{Evening}
use Rattle.club_commands.specs.declared.standing.Standing.{Standing}
use Rattle.club_commands.specs.declared.standing.Standing.TheVariants.{Held, Free}
use Rattle.club_commands.specs.declared.work.Listed.TheVariants.{Pages}
use Rattle.club_commands.specs.declared.work.Misfit.TheVariants.{LeftOut}
use Rattle.club_commands.specs.declared.work.Work.TheVariants.{Format}
use Rattle.club_disk.specs.Stored.{ReadsSession}
use Rattle.command_line.specs.declared.command.EveningWords.{EveningWords}
use Rattle.evening_commands.specs.Evenings.{WritesConfig}
use Rattle.evening_commands.specs.Fault.{Made}
use Rattle.evening_commands.specs.Making.{MakesEvening, IntoFile, WritesSlipsAt}
use Rattle.evening_commands.specs.declared.fault.EveningFault.{EveningFault}
use Rattle.evening_commands.specs.declared.making.MadeEvening.{MadeEvening}
use Rattle.line_text.specs.Streams.{between}
use Rattle.sector_disk.specs.declared.disk.DiskFault.{DiskFault as Unfound}
use Rattle.session_rules.specs.State.{opening}
use Rattle.table_pages.specs.declared.page_texts.PageTexts.{PageTexts}

-- A disk that was read holds a session; or it holds none, having too few sectors or no header; or it gives none for another
-- cause, as damage, which is the fault. Reading left it so.
abbrev pub IsStanding : {D : Type 0} → Disk D → D → D → Result Standing RunFault → Type 0
IsStanding disk d left (Ok Held) = (s : SessionValue) × ReadsSession disk d left s
IsStanding disk d left (Ok Free) = RefusesReading disk header_in d left NotFormatted ⊎ RefusesReading disk header_in d left TooSmall
IsStanding disk d left (Err fault) =
    (cause : StoreFault) × (cause ≢ NotFormatted) × (cause ≢ TooSmall) × RefusesReading disk header_in d left cause × (fault ≡ Store cause)

-- the same of a disk in a file; where it cannot be had that is the fault
abbrev pub StandsGiven : Result ClubDisk Unfound → Result Standing RunFault → Type 0
StandsGiven (Err _) standing = standing ≡ Err (Store DiskFault)
StandsGiven (Ok d) standing = (left : ClubDisk) × IsStanding file_disk d left standing

-- and where there is no file, there is no disk
abbrev pub StandsFound : Option (Result ClubDisk Unfound) → Result Standing RunFault → Type 0
StandsFound None standing = standing ≡ Ok Free
StandsFound (Some found) standing = StandsGiven found standing

-- a step over the streams and what ended it
abbrev pub Step : Type 1
Step = Stream → Stream → Ended → Type 0

-- the one step was done and then the other; or the first stopped, and that is the end
abbrev pub Then : Step → Step → Stream → Stream → Ended → Type 0
Then First Next input output ended = ((read : Option (List ℕ)) × (written : Option (List ℕ))
    × First (between input.old read) (between output.old written) (Ok tt)
    × Next (between read input.new) (between written output.new) ended)
    ⊎ ((fault : RunFault) × First input output (Err fault) × (ended ≡ Err fault))

-- the step was done, and nothing was read or written
abbrev pub Silently : (Ended → Type 0) → Step
Silently P input output ended = P ended × IsUntouched input × IsUntouched output

-- where the pages are
abbrev pub pages_address : EveningWords → List ℕ
pages_address words = codes "http://" ++ host_at words.host

-- the configuration is written to a file
abbrev pub KeepsConfig : ConfigValue → Ended → Type 0
KeepsConfig configuration ended = (made : Made) × IntoFile (λ file. WritesConfig file configuration) made × EndsAs made ended

-- the slips are written to a file, with these names and the address of the pages
abbrev pub KeepsSlips : MadeEvening → List ℕ → Ended → Type 0
KeepsSlips evening address ended =
    (made : Made) × IntoFile (WritesSlipsAt evening.config evening.names.items address) made × EndsAs made ended

-- a disk is made that holds the session which begins by a configuration, unless memory is refused
abbrev pub KeepsSession : ConfigValue → Step
KeepsSession configuration input output ended =
    Silently (λ end. end ≡ Err (Store NoMemory)) input output ended
    ⊎ ((session : Bor SessionValue) × (session.now ≡ opening configuration) × HasWorked input output ended (Format session))

-- of an evening the configuration is kept, then the slips, and then a disk is made
abbrev pub Keeps : MadeEvening → List ℕ → Step
Keeps evening address =
    Then (Silently (KeepsConfig evening.config)) (Then (Silently (KeepsSlips evening address)) (KeepsSession evening.config))

-- an evening that was made is kept; or none was, and nothing is
abbrev pub KeepsMade : List ℕ → Result MadeEvening EveningFault → Step
KeepsMade address (Ok evening) input output ended = Keeps evening address input output ended
KeepsMade address (Err fault) input output ended = Silently (λ end. end ≡ Err (Evening fault)) input output ended

-- an evening is made of the pairs of a list and kept, unless memory is refused for the address
abbrev pub MakesAndKeeps : EveningWords → Step
MakesAndKeeps words input output ended = Silently (λ end. end ≡ Err (Store NoMemory)) input output ended
    ⊎ ((made : Result MadeEvening EveningFault) × (written : Option (List ℕ))
    × MakesEvening words.wishes (pages_address words) (between output.old written) made
    × KeepsMade (pages_address words) made input (between written output.new) ended)

-- the pages of the session on a disk are shown, with the names of the list, where it can be read and has as many pairs
abbrev pub ShowsEvening : PageTexts → EveningWords → Step
ShowsEvening texts words = WhereListed (HasListed (Pages texts words.host words.minutes words.disk LeftOut))

-- The pages of the session that stands on a disk are shown; where none stands, one is made first, and where that cannot be told
-- nothing is done.
abbrev pub HoldsEvening : PageTexts → EveningWords → Result Standing RunFault → Step
HoldsEvening texts words (Ok Held) = ShowsEvening texts words
HoldsEvening texts words (Ok Free) = Then (MakesAndKeeps words) (ShowsEvening texts words)
HoldsEvening texts words (Err fault) = Silently (λ end. end ≡ Err fault)

-- the same by what was found at the disk
abbrev pub HasEvening : PageTexts → EveningWords → Step
HasEvening texts words input output ended = (found : Option (Result ClubDisk Unfound)) × (standing : Result Standing RunFault)
    × StandsFound found standing × HoldsEvening texts words standing input output ended
