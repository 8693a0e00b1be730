-- Pages that were shown over a store.
use Rattle.std.proofs.Common.{◌≡◌, ◌⊎◌, ℕ, Bool, true, false, List, [], ◌∷◌, Result, Ok, Err, inl, inr, refl, subst, sym, ap, ◌∙◌, OnOk}
use Rattle.std.specs.Prelude.{nat_lt, length, string_bytes}
use Rattle.http.specs.Request.{head_of, body_of}
use Rattle.http_server.specs.declared.response.Response.{Response}
use Rattle.http_server.specs.Exchange.{Call, Chain}
use Rattle.sector_disk.specs.Disk.{Disk}
use Rattle.session_store.specs.Value.{StoreValue}
use Rattle.session_rules.specs.declared.action.Action.{Action}
use Rattle.session_rules.specs.State.{SessionValue}
use Rattle.table_server.specs.Faulted.{FailsWithDisk}
use Rattle.table_server.proofs.FaultLemmas.{same_store, fails_on, met_none, met_one}
use Rattle.table_server.specs.declared.line_set.LineSet.{LineSet}
use Rattle.table_server.specs.declared.line_set.LineSet.TheVariants.{Protocol, Corrections}
use Rattle.web_loop.specs.Turns.{LeadsTo}
use Rattle.web_requests.specs.Route.{route_for}
use Rattle.web_requests.specs.declared.route.Route.{Route}
use Rattle.web_requests.specs.declared.route.Route.TheVariants.{Page, TextsScript, SharedScript, TableScript, BoardsScript, DeskScript, DirectorScript, Style, Lines, Correct, Place, Tables, Boards, Results, Desk, Wait, Names, Refused}
use Rattle.table_pages.specs.Answered.{AnswersLines, has_failed, is_settled, place_told, tables_told, wait_told, boards_told, desks_told}
use Rattle.page_replies.specs.ToldResults.{results_told}
use Rattle.table_pages.specs.declared.host_names.HostNames.{HostNames}
use Rattle.table_pages.specs.declared.page_texts.PageTexts.{PageTexts}
use Rattle.table_pages.specs.Responses.{TellsShort, Responds, Answering}
use Rattle.table_pages.specs.Site.{Site, site_of}
use Rattle.line_text.specs.Streams.{Stream}
use Rattle.club_disk.specs.Stored.{ClubDisk, ClubStore, Leads}
use Rattle.command_line.specs.declared.command.WebHost.{WebHost}
use Rattle.club_commands.specs.Basis.{System, Store, DiskFault}
use Rattle.club_commands.specs.declared.fault.SystemFault.TheVariants.{Clock}
use Rattle.club_commands.specs.Ended.{Ended}
use Rattle.club_commands.specs.Web.{host_at, alias_at, site_at, ended_by, IsUnshown, ShowsAt, ShowsWith, ShowsPages}
use Rattle.bridge_results.specs.ShownPairs.{Names as Shown}
use Rattle.evening_commands.specs.People.{people_text}

-- a store that works and has nothing pending can take lines
pub settled_store : (store : ClubStore) → store.failed ≡ false → store.pending ≡ [] → is_settled store.failed store.pending ≡ true
settled_store store works none =
    ap (λ (b : Bool). is_settled b store.pending) works ∙ ap (λ (xs : List Action). is_settled false xs) none

module _ {D : Type 0} (disk : Disk D) where
  -- over one body of lines
  lines : (set : LineSet) (short : Bool) (old : StoreValue D SessionValue Action) (body : List ℕ) (response : Response) (new : StoreValue D SessionValue Action)
      → TellsShort (AnswersLines disk set) short old body response new → FailsWithDisk disk old new
  lines set true old body response new (inl told) = told.1.1
  lines set true old body response new (inr silent) = silent.0.1.1
  lines set false old body response new refused = same_store disk old new refused.1

  -- over one request
  one : (texts : PageTexts) (people : List ℕ) (route : Route) (old : StoreValue D SessionValue Action) (body : List ℕ) (response : Response) (new : StoreValue D SessionValue Action)
      → Responds (AnswersLines disk) has_failed place_told tables_told wait_told boards_told desks_told results_told texts people route old body response new → FailsWithDisk disk old new
  one texts people Page old body response new x = same_store disk old new x.1
  one texts people TextsScript old body response new x = same_store disk old new x.1
  one texts people SharedScript old body response new x = same_store disk old new x.1
  one texts people TableScript old body response new x = same_store disk old new x.1
  one texts people BoardsScript old body response new x = same_store disk old new x.1
  one texts people DeskScript old body response new x = same_store disk old new x.1
  one texts people DirectorScript old body response new x = same_store disk old new x.1
  one texts people Style old body response new x = same_store disk old new x.1
  one texts people Lines old body response new x = lines Protocol (nat_lt (length body) 65536) old body response new x
  one texts people Correct old body response new x = lines Corrections (nat_lt (length body) 65536) old body response new x
  one texts people Place old body response new x = same_store disk old new x.1
  one texts people Tables old body response new x = same_store disk old new x.1
  one texts people Boards old body response new x = same_store disk old new x.1
  one texts people Results old body response new x = same_store disk old new x.1
  one texts people Desk old body response new x = same_store disk old new x.1
  one texts people Wait old body response new x = same_store disk old new x.1
  one texts people Names old body response new x = same_store disk old new x.1
  one texts people (Refused why) old body response new x = same_store disk old new x.1

  module _ (site : Site) where
    -- over requests, one after another
    all : (calls : List Call) (old new : StoreValue D SessionValue Action)
        → Chain (Answering (AnswersLines disk) has_failed place_told tables_told wait_told boards_told desks_told results_told site) old calls new → FailsWithDisk disk old new
    all [] old new same = same_store disk old new same
    all (c ∷ calls) old new x =
        fails_on disk old x.0 new (one site.texts site.people (route_for site.host site.alias (head_of c.0)) old (body_of c.0) c.1 x.0 x.1) (all calls x.0 new x.2)

    -- pages were shown until an end, and the store works
    shows_pages : (start store : StoreValue D SessionValue Action) (ended : Ended)
        → LeadsTo (Answering (AnswersLines disk) has_failed place_told tables_told wait_told boards_told desks_told results_told site) start store
        → store.failed ≡ false → (ended ≡ Ok tt) ⊎ (ended ≡ Err (System Clock)) → ShowsPages disk site start store ended
    shows_pages start store ended requests works way = record {
      requests = requests;
      ends = inl (works, met_none disk start store (all requests.0 start store requests.1) works, way);
    }

    -- or the store failed
    fails_pages : (start store : StoreValue D SessionValue Action) (ended : Ended)
        → LeadsTo (Answering (AnswersLines disk) has_failed place_told tables_told wait_told boards_told desks_told results_told site) start store
        → start.failed ≡ false → store.failed ≡ true → ended ≡ Err (Store DiskFault) → ShowsPages disk site start store ended
    fails_pages start store ended requests worked failed is = record {
      requests = requests;
      ends = inr (failed, met_one disk start store (all requests.0 start store requests.1) worked failed, is);
    }

    -- pages were shown until the store failed, or the clock told an end or nothing
    pub pages_ended : {E : Type 0} (failed : Bool) (shown : Result (Unit {0}) E) (ended : Ended) (start store : StoreValue D SessionValue Action)
        → LeadsTo (Answering (AnswersLines disk) has_failed place_told tables_told wait_told boards_told desks_told results_told site) start store
        → start.failed ≡ false → store.failed ≡ failed → ended ≡ ended_by failed shown → ShowsPages disk site start store ended
    pages_ended true shown ended start store requests worked failed is = fails_pages start store ended requests worked failed is
    pages_ended false (Ok _) ended start store requests worked failed is = shows_pages start store ended requests failed (inl is)
    pages_ended false (Err _) ended start store requests worked failed is = shows_pages start store ended requests failed (inr is)

-- what holds holds at Ok
pub on_ok : {A E P : Type 0} (r : Result A E) → P → OnOk r P
on_ok (Ok x) p = p
on_ok (Err e) p = tt

-- the site of pages that were made with the texts of the program, the names of the words and these lines
pub made_site : (web : WebHost) (made texts : PageTexts) (used names : HostNames) (lines people : List ℕ) → used ≡ names → made ≡ texts
    → lines ≡ people → string_bytes names.host ≡ host_at web → string_bytes names.alias ≡ alias_at web
    → site_of made used lines ≡ site_at texts web people
made_site web made texts used names lines people n t p host alias = rw (n, t, p, host, alias) refl

-- pages were shown over a store at the site of the program and the words, and its disk is handed out
pub shows_over : (texts : PageTexts) (web : WebHost) (names : Shown) (site : Site) (start served last : ClubStore) (output : Stream) (ended handed : Ended) (left : ClubDisk)
    → site ≡ site_at texts web (people_text names start.state.configuration.pairs) → served ≡ start → handed ≡ ended → left ≡ last.disk
    → ShowsAt (IsUnshown web) site served last output ended → Leads (ShowsWith texts web output handed names) start left
shows_over texts web names site start served last output ended handed left p s is left_by shown =
    let at_site = site_at texts web (people_text names start.state.configuration.pairs) in
    let there = subst (λ (at : Site). ShowsAt (IsUnshown web) at served last output ended) p shown in
    let over = subst (λ (first : ClubStore). ShowsAt (IsUnshown web) at_site first last output ended) s there in
    (last, left_by, subst (λ (way : Ended). ShowsAt (IsUnshown web) at_site start last output way) (sym is) over)
