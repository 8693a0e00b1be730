-- What the command `web` does.
use Rattle.std.specs.Prelude.{◌≡◌, ◌⊎◌, ◌++◌, ℕ, Bool, true, false, List, [], ◌∷◌, codes, Option, Some, None, Result, Ok, Err, IsErrAnd, IsSomeAnd, MatchBool, MatchOption, length}
use Rattle.club_commands.specs.Basis.{Bor, Stream, Takes, TakesPrefix, IsUntouched, Disk, file_disk, NoMemory, DiskFault, StoreOn, ClubStore, Write, RunFault, StreamFault, System, Store, Listener}
use Rattle.std.specs.Net.Addr.{ipv4_octets}
use Rattle.std.specs.Net.Grammar.{IsIpv4Text}
use Rattle.std.specs.declared.net.ipv4_addr.Ipv4Addr.{Ipv4Addr}
use Rattle.web_loop.specs.Turns.{LeadsTo}
use Rattle.table_pages.specs.Answered.{AnswersLines, has_failed, place_told, tables_told, wait_told, boards_told, desks_told}
use Rattle.page_replies.specs.ToldResults.{results_told}
use Rattle.table_pages.specs.HostNames.{with_port}
use Rattle.table_pages.specs.Responses.{Answering}
use Rattle.table_pages.specs.declared.page_texts.PageTexts.{PageTexts}
use Rattle.table_pages.specs.Site.{Site}
use Rattle.command_line.specs.declared.command.WebHost.{WebHost}
use Rattle.club_commands.specs.declared.fault.SystemFault.TheVariants.{Address, Random, Clock}
use Rattle.bridge_results.specs.ShownPairs.{Names}
use Rattle.club_commands.specs.Ended.{Ended, EndsOver}
use Rattle.club_commands.specs.Listed.{RefusesList}
use Rattle.evening_commands.specs.People.{fits, people_text}
use Rattle.evening_commands.specs.declared.fault.EveningFault.TheVariants.{OtherPairs}
use Rattle.club_commands.specs.declared.work.Misfit.{Misfit}
use Rattle.club_commands.specs.declared.work.Misfit.TheVariants.{Refused, LeftOut}

-- what is given, or else that
abbrev pub given_or : Option (Bor (List ℕ)) → List ℕ → List ℕ
given_or (Some given) own = given.now
given_or None own = own

-- the name that is given, or else the address, or else that
abbrev pub name_of : WebHost → List ℕ → List ℕ
name_of web own = given_or web.name (given_or web.address own)

-- the first of the names that browsers may ask for: that at the port, or at this computer's own address
abbrev pub host_at : WebHost → List ℕ
host_at web = with_port (name_of web (codes "127.0.0.1")) web.port

-- and the other: the same without a port, or where neither is given this computer's name with it
abbrev pub alias_at : WebHost → List ℕ
alias_at web = name_of web (with_port (codes "localhost") web.port)

-- the pages of these texts, at these names, with these lines of the players' names
abbrev pub site_at : PageTexts → WebHost → List ℕ → Site
site_at texts web people = record { texts = texts; host = host_at web; alias = alias_at web; people = people }

-- the address to listen at, which is this computer's own where none is given
abbrev pub IsAddress : Option (Bor (List ℕ)) → Option Ipv4Addr → Type 0
IsAddress None found = IsSomeAnd found (λ a. ipv4_octets a ≡ 127 ∷ 0 ∷ 0 ∷ 1 ∷ [])
IsAddress (Some text) found = MatchOption found ((a : Ipv4Addr) → ¬ (IsIpv4Text text.now a)) (IsIpv4Text text.now)

-- the line on standard output once there is a listener: where the pages are
abbrev pub listening_line : List ℕ → List ℕ
listening_line host = (codes "listening at http://" ++ host) ++ codes "\n"

-- how the showing of pages ends where the store failed, or not, and by what the clock answered
abbrev pub ended_by : {E : Type 0} → Bool → Result (Unit {0}) E → Ended
ended_by true _ = Err (Store DiskFault)
ended_by false (Ok _) = Ok tt
ended_by false (Err _) = Err (System Clock)

-- requests were answered over a store, one after another, until the time was over or the clock could not be read
pub record ShowsPages {D : Type 0} (disk : Disk D) (site : Site) (start store : StoreOn D) (ended : Ended) : Type 0 where
  pub requests : LeadsTo (Answering (AnswersLines disk) has_failed place_told tables_told wait_told boards_told desks_told results_told site) start store
  pub ends : EndsOver disk (λ way. (way ≡ Ok tt) ⊎ (way ≡ Err (System Clock))) start store ended

-- why no pages are shown: what is given is no address, or memory or what is wanted of the system is not given
abbrev pub IsUnshown : WebHost → RunFault → Type 0
IsUnshown web fault = ((fault ≡ System Address) × IsAddress web.address None)
    ⊎ ((fault ≡ System Listener) ⊎ ((fault ≡ System Random) ⊎ (fault ≡ Store NoMemory)))

-- none are shown for such a cause, nothing is written, and the store is as it was
abbrev pub IsNoneShown : (RunFault → Type 0) → ClubStore → ClubStore → Stream → Ended → Type 0
IsNoneShown Why start store output ended = IsErrAnd ended Why × IsUntouched output × (store ≡ start)

-- the system gave no random bytes
abbrev pub HasNoRandom : RunFault → Type 0
HasNoRandom fault = fault ≡ System Random

-- it is said where the pages are, and they were shown at a site; or a write of that failed, and the store is as it was; or none
-- are shown, for such a cause
abbrev pub ShowsAt : (RunFault → Type 0) → Site → ClubStore → ClubStore → Stream → Ended → Type 0
ShowsAt Why site start store output ended = (Takes output (listening_line site.host) × ShowsPages file_disk site start store ended)
    ⊎ ((TakesPrefix output (listening_line site.host) × (ended ≡ Err (StreamFault Write)) × (store ≡ start))
    ⊎ IsNoneShown Why start store output ended)

-- over what pages are shown and where, and over what was written and how it ended
module _ (texts : PageTexts) (web : WebHost) (output : Stream) (ended : Ended) where
  -- the same where the words say, with the names of a list or none
  abbrev pub ShowsWith : Names → ClubStore → ClubStore → Type 0
  ShowsWith names start store =
      ShowsAt (IsUnshown web) (site_at texts web (people_text names start.state.configuration.pairs)) start store output ended

  -- where the list has another number of pairs that is said, and is the fault, and the store is as it was; or it is left out
  abbrev pub ShowsOther : Misfit → ClubStore → ClubStore → Type 0
  ShowsOther Refused start store = RefusesList OtherPairs output ended × (store ≡ start)
  ShowsOther LeftOut start store = ShowsWith None start store

  -- by whether it has as many pairs as the session
  abbrev pub ShowsListed : Misfit → Names → ClubStore → ClubStore → Type 0
  ShowsListed misfit names start store =
      MatchBool (fits names (length start.state.configuration.pairs)) (ShowsWith names start store) (ShowsOther misfit start store)
