-- What stands on the program's streams once a command was done, and at a fault.
use Rattle.std.specs.Prelude.{◌≡◌, ◌⊎◌, ◌++◌, ℕ, List, length, map, codes, MatchResult, Option, Some, None}
use Rattle.club_commands.specs.Basis.{Bor, Stream, TakesPrefix, IsUntouched, ServeFault, StreamFault, NoMemory, Ranking, Games}
use Rattle.bridge_cards.specs.Board.{dealer_of}
use Rattle.auction_command.specs.Heard.{AnswersAll, StopsAt}
use Rattle.command_line.specs.Words.{AsksCommand, AreRefused}
use Rattle.command_line.specs.declared.command.WebWords.{WebWords}
use Rattle.command_line.specs.declared.command.Command.{Command}
use Rattle.command_line.specs.declared.command.Command.TheVariants.{Auction, Format, Script, Correct, Serve, Web, Rank, Pbn, Results, Export, Event, Check, Plan, Draft, Slips, Evening, Makeable, Copy, Version}
use Rattle.command_line.specs.declared.command.WordsFault.{WordsFault}
use Rattle.command_line.specs.declared.command.WordsFault.TheVariants.{Usage, Memory}
use Rattle.table_pages.specs.declared.page_texts.PageTexts.{PageTexts}
use Rattle.club_commands.specs.declared.release.TheConstants.{VERSION, KIT}
use Rattle.table_server.specs.declared.line_set.LineSet.TheVariants.{Protocol, Corrections}
use Rattle.club_commands.specs.declared.work.Service.TheVariants as service
use Rattle.club_commands.specs.declared.work.Listed.TheVariants as listed
use Rattle.club_commands.specs.declared.work.Misfit.TheVariants.{Refused}
use Rattle.club_commands.specs.declared.work.Work.TheVariants as work
use Rattle.club_commands.specs.CheckedTwo.{RunsCheck}
use Rattle.club_commands.specs.Evening.{HasEvening}
use Rattle.club_commands.specs.Events.{HasEvent}
use Rattle.club_commands.specs.Evenings.{HasDrafted, HasPlanned, HasSlips}
use Rattle.club_commands.specs.Listed.{WithList}
use Rattle.club_commands.specs.MakeableDeals.{HasMade}
use Rattle.club_commands.specs.PairWeb.{ShowsTwoListed}
use Rattle.club_commands.specs.Ended.{Ended, Writes, store_line, fault_line, fault_status}
use Rattle.club_commands.specs.Works.{HasCopied, HasWorked, HasFormatted, HasListed}

-- the output of a board's auction is written for what was read of the input, all or up to a fault of the streams
abbrev pub HoldsAuction : ℕ → Stream → Stream → Ended → Type 0
HoldsAuction board input output ended = MatchResult ended (λ _. AnswersAll (dealer_of board) input output)
    (λ fault. (cause : ServeFault) × (fault ≡ StreamFault cause) × StopsAt (dealer_of board) input output cause)

-- the program's name, its version and the kit that proved it
abbrev pub version_line : List ℕ
version_line = (((codes "bridge_club " ++ VERSION.now) ++ codes ", proved with ") ++ KIT.now) ++ codes "\n"

-- pages of these texts are shown over the session that a disk holds, or that two do
abbrev pub ShowsWeb : PageTexts → Bor (List ℕ) → WebWords → Option (Bor (List ℕ)) → Stream → Stream → Ended → Type 0
ShowsWeb texts disk web None input output ended = WithList (HasListed (listed.Pages texts web.host web.minutes disk Refused)) web.names input output ended
ShowsWeb texts disk web (Some copy) input output ended =
    ShowsTwoListed texts web.host output ended (record { disk = disk; copy = copy }) web.names × IsUntouched input

-- what `web` shows
abbrev pub RunsWeb : PageTexts → Bor (List ℕ) → WebWords → Stream → Stream → Ended → Type 0
RunsWeb texts disk web input output ended = ShowsWeb texts disk web web.copy input output ended

-- what a command of a program with these pages read from standard input and wrote to standard output, and how it ended
abbrev pub Runs : PageTexts → Command → Stream → Stream → Ended → Type 0
Runs texts (Auction board) input output ended = HoldsAuction board input output ended
Runs texts (Format disk config) input output ended = HasFormatted input output ended
Runs texts (Script disk) input output ended = HasWorked input output ended (work.Serve (service.Input Protocol))
Runs texts (Correct disk) input output ended = HasWorked input output ended (work.Serve (service.Input Corrections))
Runs texts (Serve disk port count) input output ended = HasWorked input output ended (work.Serve (service.Connections port count))
Runs texts (Web disk pages) input output ended = RunsWeb texts disk pages input output ended
Runs texts (Rank disk) input output ended = HasWorked input output ended (work.Tell Ranking)
Runs texts (Pbn disk) input output ended = HasWorked input output ended (work.Tell Games)
Runs texts (Results disk page names) input output ended = WithList (HasListed (listed.Results page)) names input output ended
Runs texts (Export disk asked) input output ended = HasWorked input output ended (work.Export asked)
Runs texts (Event disks asked) input output ended = HasEvent asked (length disks.items) output ended × IsUntouched input
Runs texts (Check disk copy) input output ended = RunsCheck copy input output ended
Runs texts (Plan config names) input output ended = HasPlanned names output ended × IsUntouched input
Runs texts (Draft names wishes) input output ended = HasDrafted wishes output ended × IsUntouched input
Runs texts (Slips config slips) input output ended = HasSlips slips output ended × IsUntouched input
Runs texts (Evening words) input output ended = HasEvening texts words input output ended
Runs texts (Makeable file pbn) input output ended = HasMade pbn output ended × IsUntouched input
Runs texts (Copy disk copy) input output ended = HasCopied input output ended
Runs texts Version input output ended = Writes output version_line ended × IsUntouched input

-- How a command ended, and with which exit status: it was done, and nothing stands on standard error; or it stopped at a fault,
-- and standard error took a prefix of the line for that fault, no more. What the runtime says at once of a disk that is lost is beside it.
abbrev pub EndsWith : ℕ → PageTexts → Command → Stream → Stream → Stream → Type 0
EndsWith status texts command input output errors = (ended : Ended) × Runs texts command input output ended
    × MatchResult ended (λ _. (status ≡ 0) × IsUntouched errors)
    (λ fault. (status ≡ fault_status fault) × TakesPrefix errors (fault_line fault))

-- the exit status where the words are no command, and what standard error took where memory was refused
abbrev pub RefusesWords : WordsFault → ℕ → Stream → Type 0
RefusesWords (Usage error) status errors = status ≡ 2
RefusesWords Memory status errors = (status ≡ 3) × TakesPrefix errors (store_line NoMemory)

-- the words are no command, exclude each other, or call for help, and nothing was read or written
abbrev pub IsUsage : List (Bor (List ℕ)) → Stream → Stream → Type 0
IsUsage words input output = AreRefused (map (λ word. word.now) words) × IsUntouched input × IsUntouched output

-- over the words after the program's name, and the standard streams
module _ (words : List (Bor (List ℕ))) (input output errors : Stream) where
  -- the words ask for a command, which ended with this status
  abbrev pub HasRun : ℕ → PageTexts → Type 0
  HasRun status texts = (command : Command) × AsksCommand (map (λ word. word.now) words) command
      × EndsWith status texts command input output errors

  -- the same with status 3; or memory was refused before any command, and standard error took a prefix of the line for that
  abbrev pub HasFailed : PageTexts → Type 0
  HasFailed texts = (IsUntouched input × IsUntouched output × TakesPrefix errors (store_line NoMemory)) ⊎ HasRun 3 texts
