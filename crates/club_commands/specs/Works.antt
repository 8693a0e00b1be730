-- What commands do over a disk in a file.
use Rattle.std.specs.Prelude.{◌≡◌, ◌⊎◌, codes, Option, None, Result, Ok, Err, IfOk, IfErr, IsSomeAnd, MatchResult}
use Rattle.club_commands.specs.Basis.{Bor, Stream, IsUntouched, Disk, Image, Rose, file_disk, session_keeping}
use Rattle.club_commands.specs.Basis.{StoreFault, DiskFault, NoMemory, SessionValue, RefusesDisk, RefusesReading, header_in, ClubDisk, ClubStore, Over, RunFault, Store}
use Rattle.sector_disk.specs.Runs.{Remains}
use Rattle.sector_disk.specs.declared.disk.DiskFault.{DiskFault as Unfound}
use Rattle.session_store.specs.Layout.{sector_count}
use Rattle.session_store.specs.Base.{HasEpoch}
use Rattle.session_store.specs.Sound.{IsSoundDisk, StandsOnlyFor}
use Rattle.bridge_results.specs.ShownPairs.{Names}
use Rattle.club_disk.specs.declared.access.Access.{Access}
use Rattle.club_disk.specs.declared.access.Access.TheVariants as access
use Rattle.club_disk.specs.Stored.{Leads, ReadsSession}
use Rattle.club_commands.specs.declared.work.Service.{Service}
use Rattle.club_commands.specs.declared.work.Service.TheVariants.{Input, Connections, Pages}
use Rattle.club_commands.specs.declared.work.Listed.{Listed}
use Rattle.club_commands.specs.declared.work.Listed.TheVariants as listed
use Rattle.club_commands.specs.declared.work.Work.{Work}
use Rattle.club_commands.specs.declared.work.Work.TheVariants.{Serve, Tell, Results, Export, Check, Format}
use Rattle.club_commands.specs.Ended.{Ended, Writes}
use Rattle.club_commands.specs.ConfigFile.{OfFile, Begins}
use Rattle.club_commands.specs.Results.{ReadsAnd, ReadsAndTells, TellsDisk}
use Rattle.club_commands.specs.Exports.{TellsExport}
use Rattle.club_commands.specs.Checked.{Checks}
use Rattle.club_commands.specs.Serving.{Scripts, ServesPort}
use Rattle.club_commands.specs.Web.{ShowsListed}

-- how a disk is taken for a work
abbrev pub access_of : Work → Access
access_of (Serve service) = access.Write
access_of (Tell told) = access.Write
access_of (Format session) = access.Make
access_of _ = access.Read

-- Of a disk one was made that holds the session, and no call of it failed: where it is honest, every image that a power
-- cut may leave stands for the session, is in order, and is of the first epoch.
pub record IsFormattedAs {D : Type 0} (disk : Disk D) (made formatted : D) (session : SessionValue) : Type 0 where
  pub remains : Remains disk made formatted
  pub no_fault : disk.faults formatted ≡ disk.faults made
  pub stands : disk.honest made → StandsOnlyFor session_keeping disk session formatted
  pub sound : disk.honest made → IsSoundDisk session_keeping disk formatted
  pub first_epoch : disk.honest made → (c : Image) → disk.may_leave formatted c → HasEpoch 1 c

-- of a disk of 2,048 sectors in a file one was made that holds the session, and then `formatted` is written; or a call of the
-- disk failed, and nothing is written
abbrev pub Formats : ClubDisk → ClubDisk → SessionValue → Stream → Ended → Type 0
Formats made left session output ended = (file_disk.count made ≡ sector_count)
    × ((IsFormattedAs file_disk made left session × Writes output (codes "formatted\n") ended)
    ⊎ (Rose (file_disk.faults made) (file_disk.faults left) × (ended ≡ Err (Store DiskFault)) × IsUntouched output))

-- a disk was read, and holds this session
abbrev pub IsRead : SessionValue → Type 0
IsRead session = (d : ClubDisk) × (left : ClubDisk) × ReadsSession file_disk d left session

-- none was found, or it was read, and holds none
abbrev pub IsUnread : StoreFault → Type 0
IsUnread cause = (cause ≡ DiskFault) ⊎ ((d : ClubDisk) × (left : ClubDisk) × RefusesReading file_disk header_in d left cause)

-- what was found of a disk was read, and gave that: a session that it holds, or why it gives none; a disk that was not found gives none
abbrev pub GivesRead : Result ClubDisk Unfound → Result SessionValue StoreFault → Type 0
GivesRead (Ok d) read = (left : ClubDisk) × IfOk read (ReadsSession file_disk d left) × IfErr read (RefusesReading file_disk header_in d left)
GivesRead (Err _) read = read ≡ Err DiskFault

-- over what a work did to the streams and how it ended
module _ (input output : Stream) (ended : Ended) where
  -- lines were answered, from the store that opening gave to the last, up to the end or a fault
  abbrev pub Serves : Service → ClubStore → ClubStore → Type 0
  Serves (Input set) start last = Scripts file_disk set start last input output ended
  Serves (Connections port count) start last = ServesPort count start last ended × IsUntouched input × IsUntouched output
  Serves (Pages shown disk) start last =
      ShowsListed shown.texts shown.host output ended shown.misfit shown.names start last × IsUntouched input

  -- that is the fault, and nothing was read or written
  abbrev pub IsNothingDone : StoreFault → Type 0
  IsNothingDone cause = (ended ≡ Err (Store cause)) × IsUntouched input × IsUntouched output

  -- there was memory for a cache, and lines were answered over a store; or there was none
  abbrev pub ServesWith : {C E : Type 0} → Result C E → Service → ClubStore → ClubDisk → Type 0
  ServesWith cache service start left =
      MatchResult cache (λ _. Leads (Serves service) start left) (λ _. IsNothingDone NoMemory × (left ≡ start.disk))

  -- a session was opened on a disk, and lines answered over it, or memory was refused; or none was opened
  abbrev pub ServesDisk : Service → ClubDisk → ClubDisk → Type 0
  ServesDisk service d left = Over (λ start last. Serves service start last ⊎ (IsNothingDone NoMemory × (last ≡ start))) d left
      ⊎ ((cause : StoreFault) × IsNothingDone cause × RefusesDisk file_disk d left cause)

  -- what a work did over a disk, and left of it
  abbrev pub Works : Work → ClubDisk → ClubDisk → Type 0
  Works (Serve service) d left = ServesDisk service d left
  Works (Tell told) d left = TellsDisk told output ended d left × IsUntouched input
  Works (Results page names) d left = ReadsAndTells page names file_disk output ended d left × IsUntouched input
  Works (Export asked) d left = ReadsAnd (TellsExport asked) file_disk output ended d left × IsUntouched input
  Works Check d left = Checks file_disk d left output ended × IsUntouched input
  Works (Format session) d left = Formats d left session.now output ended × IsUntouched input

  -- the same over a disk that was found; or none was, of which no contract can say more
  abbrev pub WorksFound : {E : Type 0} → Work → Result ClubDisk E → Option ClubDisk → Type 0
  WorksFound work found left =
      MatchResult found (λ d. IsSomeAnd left (Works work d)) (λ _. (left ≡ None) × IsNothingDone DiskFault)

  -- the same over whatever disk was found, or over none
  abbrev pub HasWorked : Work → Type 0
  HasWorked work = ((d : ClubDisk) × (left : ClubDisk) × Works work d left) ⊎ IsNothingDone DiskFault

  -- a disk in a file was made to hold the session that begins by a configuration's file; or there is no session
  abbrev pub HasFormatted : Type 0
  HasFormatted = ((session : Bor SessionValue) × OfFile (Begins (Ok session.now)) × HasWorked (Format session))
      ⊎ ((fault : RunFault) × OfFile (Begins (Err fault)) × (ended ≡ Err fault) × IsUntouched input × IsUntouched output)

  -- the session of a disk was read, and another disk was made to hold it; or there is none, and nothing was done
  abbrev pub HasCopied : Type 0
  HasCopied = ((session : Bor SessionValue) × IsRead session.now × HasWorked (Format session))
      ⊎ ((cause : StoreFault) × IsUnread cause × IsNothingDone cause)

-- what is done over a disk where names are shown
abbrev pub work_with : Listed → Names → Work
work_with (listed.Results page) names = Results page names
work_with (listed.Pages texts host minutes disk misfit) names =
    Serve (Pages (record { texts = texts; host = host; minutes = minutes; misfit = misfit; names = names }) disk)

-- that was done with these names
abbrev pub HasListed : Listed → Names → Stream → Stream → Ended → Type 0
HasListed asked names input output ended = HasWorked input output ended (work_with asked names)
