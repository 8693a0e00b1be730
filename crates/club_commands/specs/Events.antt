-- What `results` and `export` write over several disks, whose sessions are the sections of one event.
use Rattle.std.specs.Prelude.{◌≡◌, ◌≤◌, ◌+◌, ◌⊎◌, [], ℕ, Bool, List, Option, length, All, MatchBool, Err}
use Rattle.bridge_results.specs.declared.makeable.Makeable.{Makeable}
use Rattle.command_line.specs.declared.command.EventAsked.{EventAsked}
use Rattle.command_line.specs.declared.command.EventAsked.TheVariants.{Page, Export}
use Rattle.command_line.specs.declared.command.ExportAsked.TheVariants.{Plays, Rankings, Object, Games}
use Rattle.event_ranking.specs.OneField.{IsField, IsFirstRefusal}
use Rattle.event_ranking.specs.declared.field.SectionsRefused.{SectionsRefused}
use Rattle.event_ranking.specs.declared.ranking.SectionRanked.{SectionRanked}
use Rattle.event_ranking.specs.EventRanking.{IsFieldRanking}
use Rattle.event_results.specs.EventTables.{plays_table, rankings_table}
use Rattle.event_results.specs.EventPage.{page_text}
use Rattle.event_results.specs.Kept.{AreFieldRankings}
use Rattle.event_results.specs.Rankings.{RankingsValue}
use Rattle.event_object.specs.EventObject.{IsEventObjectText}
use Rattle.event_pbn.specs.EventGames.{event_games}
use Rattle.page_layout.specs.declared.format.Format.{Format}
use Rattle.bridge_ranking.specs.declared.field.Field.TheVariants.{First, Second}
use Rattle.session_analysis.specs.Analysed.{AreEventBoardsOf}
use Rattle.club_commands.specs.Basis.{SessionValue, Stream, IsUntouched, NoMemory, Store, StoreFault, RunFault}
use Rattle.club_commands.specs.declared.fault.OtherSection.{OtherSection}
use Rattle.club_commands.specs.declared.fault.RunFault.TheVariants.{Section, Field}
use Rattle.club_commands.specs.declared.event_texts.BoardsText.{BoardsText}
use Rattle.club_commands.specs.declared.event_texts.BoardsText.TheVariants as boards_text
use Rattle.club_commands.specs.Ended.{Ended, Writes, WritesAndStops}
use Rattle.club_commands.specs.Results.{Tells, page_format}
use Rattle.club_commands.specs.Works.{IsRead, IsUnread}

-- what could be made on boards, as far as it is known
abbrev pub MakeableBoards : Type 0
MakeableBoards = List (Option Makeable)

-- the page of sections with their rankings and what could be made on these boards
abbrev pub IsEventPage : Format → MakeableBoards → List SessionValue → List ℕ → Type 0
IsEventPage format boards sections text = (first second : RankingsValue) × AreFieldRankings sections First first
    × AreFieldRankings sections Second second × (text ≡ page_text format boards sections first second)

-- their rankings over all
abbrev pub AreRankings : List SessionValue → List SectionRanked → List SectionRanked → Type 0
AreRankings sections first second = IsFieldRanking sections First first × IsFieldRanking sections Second second

-- their games with these and what could be made on these boards
abbrev pub IsEventGames : MakeableBoards → List SessionValue → List ℕ → Type 0
IsEventGames boards sections text =
    (first second : List SectionRanked) × AreRankings sections first second × (text ≡ event_games sections boards first second)

-- the rankings as comma-separated values
abbrev pub IsEventRankings : List SessionValue → List ℕ → Type 0
IsEventRankings sections text =
    (first second : List SectionRanked) × AreRankings sections first second × (text ≡ rankings_table sections first second)

-- a text of sections with what could be made on these boards
abbrev pub IsBoardsText : BoardsText → MakeableBoards → List SessionValue → List ℕ → Type 0
IsBoardsText (boards_text.Page format) boards sections text = IsEventPage format boards sections text
IsBoardsText boards_text.Games boards sections text = IsEventGames boards sections text

-- it is written without what could be made, and that memory was refused is the fault
abbrev pub TellsWithoutBoards : BoardsText → List SessionValue → Stream → Ended → Type 0
TellsWithoutBoards asked sections output ended =
    (text : List ℕ) × IsBoardsText asked [] sections text × WritesAndStops output text (Store NoMemory) ended

-- it is written with what could be made on each board that is dealt; or memory was refused
abbrev pub TellsBoardsFound : BoardsText → List SessionValue → Stream → Ended → Type 0
TellsBoardsFound asked sections output ended =
    ((boards : MakeableBoards) × AreEventBoardsOf sections boards × Tells (IsBoardsText asked boards) sections output ended)
    ⊎ TellsWithoutBoards asked sections output ended

-- it is written, with what is found or without
abbrev pub TellsBoards : BoardsText → Bool → List SessionValue → Stream → Ended → Type 0
TellsBoards asked no_analysis sections output ended =
    MatchBool no_analysis (Tells (IsBoardsText asked []) sections output ended) (TellsBoardsFound asked sections output ended)

-- memory was refused, and nothing is written
abbrev pub HasNoMemory : Stream → Ended → Type 0
HasNoMemory output ended = (ended ≡ Err (Store NoMemory)) × IsUntouched output

-- all results are written as one object, unless memory was refused
abbrev pub TellsEventObject : List SessionValue → Stream → Ended → Type 0
TellsEventObject sections output ended = Tells IsEventObjectText sections output ended ⊎ HasNoMemory output ended

-- what is asked for is written
abbrev pub TellsAskedOf : EventAsked → List SessionValue → Stream → Ended → Type 0
TellsAskedOf (Page page) sections output ended = TellsBoards (boards_text.Page (page_format page.html)) page.no_analysis sections output ended
TellsAskedOf (Export Plays) sections output ended = Writes output (plays_table sections) ended
TellsAskedOf (Export Rankings) sections output ended = Tells IsEventRankings sections output ended
TellsAskedOf (Export Object) sections output ended = TellsEventObject sections output ended
TellsAskedOf (Export (Games no_analysis)) sections output ended = TellsBoards boards_text.Games no_analysis sections output ended

-- the same, unless memory was refused before
abbrev pub TellsEvent : EventAsked → List SessionValue → Stream → Ended → Type 0
TellsEvent asked sections output ended = TellsAskedOf asked sections output ended ⊎ HasNoMemory output ended

-- a section that is refused and the earlier one, by their numbers from 1
abbrev pub other_section : SectionsRefused → OtherSection
other_section refused = record { section = refused.index + 1; earlier = refused.earlier + 1; difference = refused.difference }

-- what is asked for is written of sections that are one field; or the first that cannot be compared with an earlier one is the fault
abbrev pub OverField : EventAsked → List SessionValue → Stream → Ended → Type 0
OverField asked sections output ended = (IsField sections × TellsEvent asked sections output ended)
    ⊎ ((refused : SectionsRefused) × IsFirstRefusal sections refused × (ended ≡ Err (Field (other_section refused))) × IsUntouched output)

-- so many sessions were read, each of a disk; of which one, and in which order, no clause can say
abbrev pub AreRead : ℕ → List SessionValue → Type 0
AreRead count sections = (length sections ≡ count) × All IsRead sections

-- the disk of the section of that number gives none, for this cause
abbrev pub IsUnreadSection : ℕ → RunFault → Type 0
IsUnreadSection section fault = (cause : StoreFault) × IsUnread cause × (fault ≡ Section section cause)

-- that of one of so many sections gives none, or memory was refused
abbrev pub FailsReading : ℕ → RunFault → Type 0
FailsReading count fault =
    ((section : ℕ) × (1 ≤ section) × (section ≤ count) × IsUnreadSection section fault) ⊎ (fault ≡ Store NoMemory)

-- what is asked for is written of the sessions that so many disks hold; or one gave none, and nothing is written
abbrev pub HasEvent : EventAsked → ℕ → Stream → Ended → Type 0
HasEvent asked count output ended = ((sections : List SessionValue) × AreRead count sections × OverField asked sections output ended)
    ⊎ ((fault : RunFault) × FailsReading count fault × (ended ≡ Err fault) × IsUntouched output)
