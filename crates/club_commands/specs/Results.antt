-- What the commands `rank`, `pbn` and `results` write, and how `results` leaves a disk.
use Rattle.std.specs.Prelude.{◌≡◌, ◌⊎◌, ◌++◌, [], ℕ, Bool, if◌then◌else◌, List, length, map, codes, MatchBool}
use Rattle.club_commands.specs.Basis.{Store, NoMemory, Disk, header_in, Stream, Ranking, Games, RefusesReading, RefusesDisk, ClubDisk, Over, file_disk, SessionValue}
use Rattle.club_commands.specs.declared.work.Told.{Told}
use Rattle.command_line.specs.declared.command.PageAsked.{PageAsked}
use Rattle.bridge_results.specs.Costs.{Analysis, no_analysis}
use Rattle.session_analysis.specs.declared.found.Plays.{Plays}
use Rattle.session_analysis.specs.declared.found.Plays.TheVariants.{Found, LeftOut}
use Rattle.session_analysis.specs.Analysed.{IsAnalysisOf}
use Rattle.bridge_results.specs.ResultsText.{IsNamedPageText}
use Rattle.bridge_results.specs.ShownPairs.{Names}
use Rattle.club_commands.specs.Ended.{Ended, Writes, WritesAndStops, IsRefusedFor}
use Rattle.club_commands.specs.Listed.{RefusesList}
use Rattle.evening_commands.specs.People.{fits}
use Rattle.evening_commands.specs.declared.fault.EveningFault.TheVariants.{OtherPairs}
use Rattle.club_disk.specs.Stored.{ReadsSession}
use Rattle.bridge_score.specs.declared.ranking.Ranked.{Ranked}
use Rattle.bridge_ranking.specs.declared.field.Field.{Field}
use Rattle.bridge_ranking.specs.declared.field.Field.TheVariants.{First, Second}
use Rattle.bridge_ranking.specs.Ranking.{IsRankingTo, has_field}
use Rattle.bridge_pbn.specs.Games.{session_text}
use Rattle.page_layout.specs.declared.format.Format.{Format}
use Rattle.page_layout.specs.declared.format.Format.TheVariants.{Plain, Html}
use Rattle.line_text.specs.Lines.{lines_text}
use Rattle.line_replies.specs.ReplyTexts.{ranked_line}

-- the line above the ranking of a field
abbrev pub field_heading : Field → List ℕ
field_heading First = codes "FIELD 1\n"
field_heading Second = codes "FIELD 2\n"

-- a field's heading, and a line for each pair as the director's ranking has them; nothing where there is no such field
abbrev pub IsFieldText : SessionValue → Field → List ℕ → Type 0
IsFieldText s field text = MatchBool (has_field s.configuration.movement.shape field)
    ((ranking : List Ranked) × IsRankingTo s s.configuration.director field ranking
    × (text ≡ field_heading field ++ lines_text (map (ranked_line s.configuration.scoring) ranking))) (text ≡ [])

-- the first field, and the second where there is one
abbrev pub IsRankingText : SessionValue → List ℕ → Type 0
IsRankingText s text =
    (first : List ℕ) × (second : List ℕ) × IsFieldText s First first × IsFieldText s Second second × (text ≡ first ++ second)

-- the format that `--html` asks for, and that without it
abbrev pub page_format : Bool → Format
page_format html = if html then Html else Plain

-- the text of these results
abbrev pub IsToldText : Told → SessionValue → List ℕ → Type 0
IsToldText Ranking s text = IsRankingText s text
IsToldText Games s text = text ≡ session_text s

-- a text of the results of a session, or of several, is written
abbrev pub Tells : {S : Type 0} → (S → List ℕ → Type 0) → S → Stream → Ended → Type 0
Tells IsText s output ended = (text : List ℕ) × IsText s text × Writes output text ended

-- what a page of that format is to have of plays: the cards and what they cost stand in HTML alone
abbrev pub plays_in : Format → Plays
plays_in Plain = LeftOut
plays_in Html = Found

-- the page without it is written, and that memory was refused is the fault
abbrev pub TellsWithout : Format → Names → SessionValue → Stream → Ended → Type 0
TellsWithout format names s output ended =
    (text : List ℕ) × IsNamedPageText format names no_analysis s text × WritesAndStops output text (Store NoMemory) ended

-- the page with what is found of the session is written; or memory was refused
abbrev pub TellsAnalysed : Format → Names → SessionValue → Stream → Ended → Type 0
TellsAnalysed format names s output ended =
    ((analysis : Analysis) × IsAnalysisOf (plays_in format) s analysis × Tells (IsNamedPageText format names analysis) s output ended)
    ⊎ TellsWithout format names s output ended

-- the page that is asked for is written, with what is found of the session or without
abbrev pub TellsAsked : PageAsked → Names → SessionValue → Stream → Ended → Type 0
TellsAsked page names s output ended = MatchBool page.no_analysis (Tells (IsNamedPageText (page_format page.html) names no_analysis) s output ended)
    (TellsAnalysed (page_format page.html) names s output ended)

-- the page of a session's results is written with these names; or that the list has another number of pairs, which is the fault
abbrev pub TellsPage : PageAsked → Names → SessionValue → Stream → Ended → Type 0
TellsPage page names s output ended = MatchBool (fits names (length s.configuration.pairs))
    (TellsAsked page names s output ended) (RefusesList OtherPairs output ended)

-- that was done with the session that was read of a disk, which it left so; or none was
abbrev pub ReadsAnd : {D : Type 0} → (SessionValue → Stream → Ended → Type 0) → Disk D → Stream → Ended → D → D → Type 0
ReadsAnd Does disk output ended d left = IsRefusedFor (RefusesReading disk header_in d left) output ended
    ⊎ ((s : SessionValue) × ReadsSession disk d left s × Does s output ended)

-- its page was written
abbrev pub ReadsAndTells : {D : Type 0} → PageAsked → Names → Disk D → Stream → Ended → D → D → Type 0
ReadsAndTells page names disk output ended d left = ReadsAnd (TellsPage page names) disk output ended d left

-- the same of the session that was opened on a disk, which is as opening left it; or none was
abbrev pub TellsDisk : Told → Stream → Ended → ClubDisk → ClubDisk → Type 0
TellsDisk told output ended d left = IsRefusedFor (RefusesDisk file_disk d left) output ended
    ⊎ Over (λ start last. (last ≡ start) × Tells (IsToldText told) start.state output ended) d left
