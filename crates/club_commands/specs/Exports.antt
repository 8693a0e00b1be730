-- What the command `export` writes.
use Rattle.std.specs.Prelude.{◌≡◌, ℕ, Bool, List, [], ◌⊎◌, MatchBool, Err}
use Rattle.command_line.specs.declared.command.ExportAsked.{ExportAsked}
use Rattle.command_line.specs.declared.command.ExportAsked.TheVariants.{Plays, Rankings, Object, Games}
use Rattle.bridge_results.specs.MakeableText.{MakeableBoards}
use Rattle.bridge_results.specs.TablesText.{plays_table, IsRankingsTable}
use Rattle.results_object.specs.Object.{IsObjectText}
use Rattle.club_commands.specs.Basis.{SessionValue, Stream, IsUntouched, NoMemory, Store}
use Rattle.results_pbn.specs.Games.{IsGamesText}
use Rattle.session_analysis.specs.Analysed.{AreBoardsOf}
use Rattle.club_commands.specs.Ended.{Ended, Writes, WritesAndStops}
use Rattle.club_commands.specs.Results.{Tells}

-- all its results are written as one object; or memory was refused, and nothing is
abbrev pub TellsObject : SessionValue → Stream → Ended → Type 0
TellsObject s output ended = Tells IsObjectText s output ended ⊎ ((ended ≡ Err (Store NoMemory)) × IsUntouched output)

-- its games are written without what could be made, and that memory was refused is the fault
abbrev pub TellsGamesWithout : SessionValue → Stream → Ended → Type 0
TellsGamesWithout s output ended = (text : List ℕ) × IsGamesText [] s text × WritesAndStops output text (Store NoMemory) ended

-- its games are written with what could be made on each board that is dealt; or memory was refused
abbrev pub TellsGamesFound : SessionValue → Stream → Ended → Type 0
TellsGamesFound s output ended =
    ((boards : MakeableBoards) × AreBoardsOf s boards × Tells (IsGamesText boards) s output ended) ⊎ TellsGamesWithout s output ended

-- its games are written, with what is found of the session or without
abbrev pub TellsGames : Bool → SessionValue → Stream → Ended → Type 0
TellsGames no_analysis s output ended = MatchBool no_analysis (Tells (IsGamesText []) s output ended) (TellsGamesFound s output ended)

-- what is asked for is written
abbrev pub TellsExport : ExportAsked → SessionValue → Stream → Ended → Type 0
TellsExport Plays s output ended = Writes output (plays_table s) ended
TellsExport Rankings s output ended = Tells IsRankingsTable s output ended
TellsExport Object s output ended = TellsObject s output ended
TellsExport (Games no_analysis) s output ended = TellsGames no_analysis s output ended
