-- What the command `web` does with a second disk.
use Rattle.std.specs.Prelude.{◌≡◌, ◌⊎◌, ◌++◌, ℕ, Bool, true, false, not, List, codes, Option, Some, None, Result, Ok, Err, MatchBool, length, string_bytes}
use Rattle.club_commands.specs.Basis.{Bor, Stream, Takes, TakesPrefix, IsUntouched, Disk, file_disk, ClubDisk, ClubStore, DiskFault, NoMemory, StreamFault, Write, RunFault, System, Store}
use Rattle.club_commands.specs.declared.fault.RunFault.TheVariants.{Joining, Lost}
use Rattle.club_commands.specs.declared.copied.TwoDisks.{TwoDisks}
use Rattle.club_commands.specs.declared.fault.LostDisk.{LostDisk}
use Rattle.club_commands.specs.declared.pair_texts.PairTexts.{PairTexts}
use Rattle.club_commands.specs.declared.fault.LostDisk.TheVariants as lost
use Rattle.club_commands.specs.declared.fault.SystemFault.TheVariants.{Clock}
use Rattle.bridge_results.specs.ShownPairs.{Names}
use Rattle.board_replies.specs.Told.{boards_text}
use Rattle.command_line.specs.declared.command.WebHost.{WebHost}
use Rattle.desk_replies.specs.Told.{desk_text}
use Rattle.desk_replies.specs.declared.desk.Desk.{Desk}
use Rattle.evening_commands.specs.Evenings.{ListOf}
use Rattle.evening_commands.specs.People.{fits, people_text}
use Rattle.evening_commands.specs.TextFile.{OfFile}
use Rattle.evening_commands.specs.declared.fault.EveningFault.{EveningFault}
use Rattle.evening_commands.specs.declared.fault.EveningFault.TheVariants.{OtherPairs}
use Rattle.evening_draft.specs.declared.wishes.PairNames.{PairNames}
use Rattle.line_replies.specs.KeyWord.{key_of_word}
use Rattle.line_replies.specs.declared.short_reply.ShortReply.{ShortReply}
use Rattle.page_replies.specs.Place.{place_text}
use Rattle.page_replies.specs.Tables.{tables_text}
use Rattle.page_replies.specs.ToldResults.{ResultsTo}
use Rattle.session_rules.specs.declared.action.Action.{Action}
use Rattle.session_rules.specs.State.{SessionValue}
use Rattle.sector_disk.specs.declared.disk.DiskFault.{DiskFault as Unfound}
use Rattle.session_pair.specs.Joining.{HasJoined}
use Rattle.session_pair.specs.Unjoined.{IsNotJoined}
use Rattle.session_pair.specs.declared.joining.JoinFault.{JoinFault}
use Rattle.session_pair.specs.declared.joining.JoinFault.TheVariants.{Copy as NoCopy}
use Rattle.session_pair.specs.declared.joining.Judged.{Judged}
use Rattle.pair_pages.specs.Pair.{PairValue, pair_of, session_of, desk_of, AnswersPair}
use Rattle.pair_pages.specs.declared.disk_names.DiskNames.{DiskNames}
use Rattle.pair_pages.specs.declared.pair_server.PairServer.{PairServer}
use Rattle.session_store.specs.Pair.{standing_of}
use Rattle.session_store.specs.Value.{StoreValue}
use Rattle.session_store.specs.declared.standing.PairStanding.{PairStanding}
use Rattle.session_store.specs.declared.standing.PairStanding.TheVariants.{Level, FirstLost, SecondLost}
use Rattle.table_pages.specs.Responses.{Answering}
use Rattle.table_pages.specs.Site.{Site}
use Rattle.table_pages.specs.Waits.{wait_reply}
use Rattle.table_pages.specs.declared.page_texts.PageTexts.{PageTexts}
use Rattle.table_server.specs.declared.line_set.LineSet.{LineSet}
use Rattle.web_loop.specs.Turns.{LeadsTo}
use Rattle.club_commands.specs.CheckedTwo.{StopsUnfound}
use Rattle.club_commands.specs.Ended.{Ended}
use Rattle.club_commands.specs.Listed.{RefusesList}
use Rattle.club_commands.specs.Web.{listening_line, host_at, alias_at, site_at, IsUnshown}

-- a server of pages over the stores of two disks
abbrev pub ServerOver : Type 0 → Type 0 → Type 0
ServerOver D E = PairServer (StoreValue D SessionValue Action) (StoreValue E SessionValue Action)

-- as its contracts see it
abbrev pub value_of : {D E : Type 0} → ServerOver D E → PairValue D E
value_of pair = pair_of pair.first pair.second pair.stopped

-- the disk, or the copy
abbrev pub lost_disk : Bool → LostDisk
lost_disk true = lost.Disk
lost_disk false = lost.Copy

-- how the showing of pages ends by which disks are still kept, where the disk was taken first or the copy, and by whether the clock
-- could be read
abbrev pub ended_standing : Option PairStanding → Bool → Bool → Ended
ended_standing None disk_first has_clock = Err (Store DiskFault)
ended_standing (Some Level) disk_first true = Ok tt
ended_standing (Some Level) disk_first false = Err (System Clock)
ended_standing (Some FirstLost) disk_first has_clock = Err (Lost (lost_disk disk_first))
ended_standing (Some SecondLost) disk_first has_clock = Err (Lost (lost_disk (not disk_first)))

-- and where nothing more may be told
abbrev pub pair_ended_by : Bool → Option PairStanding → Bool → Bool → Ended
pair_ended_by true standing disk_first has_clock = Err (Store DiskFault)
pair_ended_by false standing disk_first has_clock = ended_standing standing disk_first has_clock

-- nothing more may be told of a pair
abbrev pub has_stopped : {D E : Type 0} → ServerOver D E → Bool
has_stopped pair = pair.stopped

-- over the session of a side that works: what is told to the player whose key these bytes are, of his place
abbrev pub place_shown : {D E : Type 0} → ServerOver D E → List ℕ → List ℕ
place_shown pair key = place_text (session_of (value_of pair)) key

-- what is told of all tables to the director, whose key these bytes are
abbrev pub tables_shown : {D E : Type 0} → ServerOver D E → List ℕ → List ℕ
tables_shown pair key = tables_text (session_of (value_of pair)) key

-- how a request to wait is answered
abbrev pub wait_shown : {D E : Type 0} → ServerOver D E → List ℕ → ShortReply
wait_shown pair body = wait_reply (session_of (value_of pair)).configuration body

-- what is told of boards where these bytes are posted, players being told of other tables or not
abbrev pub boards_shown : {D E : Type 0} → ServerOver D E → Bool → List ℕ → List ℕ
boards_shown pair is_open key = boards_text (session_of (value_of pair)) is_open key

-- what is told of the desk where these bytes are posted at a second
abbrev pub desks_shown : {D E : Type 0} → ServerOver D E → Desk → ℕ → List ℕ → List ℕ
desks_shown pair desk at body =
    desk_text (session_of (value_of pair)) (desk_of pair.names pair.first pair.second desk) at body

-- and of the results to the holder of the key that these bytes are
abbrev pub results_shown : {D E : Type 0} → ServerOver D E → List ℕ → List ℕ → Type 0
results_shown pair key text = ResultsTo (session_of (value_of pair)) (key_of_word key) text

module _ {D E : Type 0} (first : Disk D) (second : Disk E) where
  -- a body of lines was answered over it
  abbrev pub AnswersServer : LineSet → ServerOver D E → List ℕ → Option (List ℕ) → ServerOver D E → Type 0
  AnswersServer set old body text new = AnswersPair first second set (value_of old) body text (value_of new)

  -- requests were answered over a pair, one after another, each by the session of a side that works
  abbrev pub LeadsPair : Site → ServerOver D E → ServerOver D E → Type 0
  LeadsPair site start last =
      LeadsTo (Answering AnswersServer has_stopped place_shown tables_shown wait_shown boards_shown desks_shown results_shown site) start last

  -- and the showing ended by which disks were still kept then
  pub record ShowsPair (site : Site) (disk_first : Bool) (start last : ServerOver D E) (ended : Ended) : Type 0 where
    pub requests : LeadsPair site start last
    pub has_clock : Bool
    pub ends : ended ≡ pair_ended_by last.stopped (standing_of last.first.failed last.second.failed) disk_first has_clock

-- by whether both held the same, and whether the disk was taken first, how the disks stood to each other
abbrev pub level_line : Bool → Bool → List ℕ
level_line true disk_first = codes "copy is level\n"
level_line false true = codes "copy brought up to date\n"
level_line false false = codes "disk brought up to date\n"

-- that, and where the pages are
abbrev pub begun_line : Judged → List ℕ → List ℕ
begun_line judged host = level_line judged.was_level judged.disk_first ++ listening_line host

-- nothing was done for such a fault, and nothing is written
abbrev pub IsNothingShown : (RunFault → Type 0) → Stream → Ended → Type 0
IsNothingShown Why output ended = (fault : RunFault) × Why fault × (ended ≡ Err fault) × IsUntouched output

-- memory was refused
abbrev pub HasNoMemory : RunFault → Type 0
HasNoMemory fault = fault ≡ Store NoMemory

-- no session was opened on two disks, and that is the fault
abbrev pub IsNotOpened : ClubDisk → ClubDisk → RunFault → Type 0
IsNotOpened d e fault =
    (cause : JoinFault) × (d' : ClubDisk) × (e' : ClubDisk) × IsNotJoined file_disk d e d' e' cause × (fault ≡ Joining cause)

-- It is said how the disks stood to each other and where the pages are, and they were shown; or a write of that failed.
abbrev pub ShowsPairAt : Judged → Site → PairServer ClubStore ClubStore → PairServer ClubStore ClubStore → Stream → Ended → Type 0
ShowsPairAt judged site start last output ended =
    (Takes output (begun_line judged site.host)
    × ShowsPair file_disk file_disk site judged.disk_first start last ended)
    ⊎ (TakesPrefix output (begun_line judged site.host) × (ended ≡ Err (StreamFault Write)))

-- so it was; or none are shown, for such a cause
abbrev pub ShowsPairOr : (RunFault → Type 0) → Judged → Site → PairServer ClubStore ClubStore → PairServer ClubStore ClubStore → Stream → Ended → Type 0
ShowsPairOr Why judged site start last output ended =
    IsNothingShown Why output ended ⊎ ShowsPairAt judged site start last output ended

-- what the director is told where one of two files is lost
abbrev pub alone_text : List ℕ → List ℕ → List ℕ
alone_text kept lost = ((kept ++ codes " alone, ") ++ lost) ++ codes " is lost"

-- what the director is told of two files where the first of the pair is lost: that is the disk, or the copy
abbrev pub lost_text : Bool → List ℕ → List ℕ → List ℕ
lost_text true disk copy = alone_text copy disk
lost_text false disk copy = alone_text disk copy

-- these are the texts of two files, of which the disk was taken first, or the copy
pub record IsNamed (disk copy : List ℕ) (disk_first : Bool) (names : DiskNames) : Type 0 where
  pub level : string_bytes names.level ≡ (disk ++ codes " and ") ++ copy
  pub first_lost : string_bytes names.first_lost ≡ lost_text disk_first disk copy
  pub second_lost : string_bytes names.second_lost ≡ lost_text (not disk_first) disk copy
  pub order : names.disk_first ≡ disk_first

-- the stores of a pair and the texts of its files, as pages are shown over it
pub record IsBegun (names : DiskNames) (v w : ClubStore) (start : PairServer ClubStore ClubStore) : Type 0 where
  pub first : start.first ≡ v
  pub second : start.second ≡ w
  pub names_are : start.names ≡ names
  pub stopped : start.stopped ≡ false

-- these are what pages begin with over two disks that were judged so and hold that session: their names, what is said first, and the
-- players' names
pub record BeginsWith (web : WebHost) (names : Names) (judged : Judged) (s : SessionValue) (texts : PairTexts) : Type 0 where
  pub host : string_bytes texts.names.host ≡ host_at web
  pub alias : string_bytes texts.names.alias ≡ alias_at web
  pub line : string_bytes texts.line ≡ begun_line judged (string_bytes texts.names.host)
  pub people : texts.people.items ≡ people_text names s.configuration.pairs

-- over what pages are shown and where, and over what was written and how it ended
module _ (texts : PageTexts) (web : WebHost) (output : Stream) (ended : Ended) where
  -- pages were shown over these stores where the words say, with the names of a list or none
  abbrev pub ShowsJoinedWith : Names → DiskNames → Judged → ClubStore → ClubStore → Type 0
  ShowsJoinedWith names disks judged v w = IsNothingShown (IsUnshown web) output ended
      ⊎ ((site : Site) × (start : PairServer ClubStore ClubStore) × (last : PairServer ClubStore ClubStore)
      × (site ≡ site_at texts web (people_text names v.state.configuration.pairs)) × IsBegun disks v w start
      × ShowsPairAt judged site start last output ended)

  -- where the list has another number of pairs that is said, and is the fault
  abbrev pub ShowsJoined : Names → DiskNames → Judged → ClubStore → ClubStore → Type 0
  ShowsJoined names disks judged v w =
      MatchBool (fits names (length v.state.configuration.pairs)) (ShowsJoinedWith names disks judged v w)
      (RefusesList OtherPairs output ended)

  module _ (disks : TwoDisks) where
    -- so it was, with the texts of the two files, or nothing was shown
    abbrev pub ShowsOpened : Names → Judged → ClubStore → ClubStore → Type 0
    ShowsOpened names judged v w = IsNothingShown HasNoMemory output ended
        ⊎ ((named : DiskNames) × IsNamed disks.disk.now disks.copy.now judged.disk_first named × ShowsJoined names named judged v w)

    -- a session was opened on these disks, and pages were shown over it; or none was, which is the fault, and nothing is written
    abbrev pub ShowsOver : Names → ClubDisk → ClubDisk → Type 0
    ShowsOver names d e = IsNothingShown (IsNotOpened d e) output ended
        ⊎ ((judged : Judged) × (v : ClubStore) × (w : ClubStore) × HasJoined file_disk d e judged v w × ShowsOpened names judged v w)

    -- the same over two disks that were found; or the first was not, or the second, which is the fault
    abbrev pub ShowsFound : {E F : Type 0} → Names → Result ClubDisk E → Result ClubDisk F → Type 0
    ShowsFound names (Err none) copy = StopsUnfound (Store DiskFault) output ended
    ShowsFound names (Ok d) (Err none) = StopsUnfound (Joining (NoCopy DiskFault)) output ended
    ShowsFound names (Ok d) (Ok e) = ShowsOver names d e

    -- the same over whatever disks were found, of which no contract can say more
    abbrev pub ShowsTwo : Names → Type 0
    ShowsTwo names = (disk : Result ClubDisk Unfound) × (copy : Result ClubDisk Unfound) × ShowsFound names disk copy

    -- it was done with the names of a list, or what is wrong with the list is the fault
    abbrev pub ShowsTwoFound : Result (List PairNames) EveningFault → Type 0
    ShowsTwoFound (Ok names) = (shown : Bor (List PairNames)) × (shown.now ≡ names) × ShowsTwo (Some shown)
    ShowsTwoFound (Err fault) = RefusesList fault output ended

    -- the same with the names of the list in a file, or without any where no file is named
    abbrev pub ShowsTwoListed : Option (Bor (List ℕ)) → Type 0
    ShowsTwoListed None = ShowsTwo None
    ShowsTwoListed (Some file) = (found : Result (List PairNames) EveningFault) × OfFile (ListOf found) × ShowsTwoFound found
