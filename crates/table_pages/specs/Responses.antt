-- What the pages answer.
use Rattle.std.specs.Prelude.{◌≡◌, ◌⊎◌, ℕ, Bool, true, false, nat_lt, List, length, Option, Some}
use Rattle.http.specs.declared.request.Request.{Request}
use Rattle.http.specs.Request.{head_of, body_of}
use Rattle.http_server.specs.declared.response.Response.{Response}
use Rattle.web_requests.specs.declared.kind.Kind.TheVariants as kind
use Rattle.web_requests.specs.declared.route.Route.{Route}
use Rattle.web_requests.specs.declared.route.Route.TheVariants.{Page, TextsScript, SharedScript, TableScript, BoardsScript, DeskScript, DirectorScript, Style, Lines, Correct, Place, Tables, Boards, Results, Desk, Wait, Names, Refused}
use Rattle.web_requests.specs.declared.route.Refusal.TheVariants.{TooLong}
use Rattle.web_requests.specs.Route.{route_for}
use Rattle.web_requests.specs.Filled.{IsText, IsRefused, IsUnavailable}
use Rattle.desk_replies.specs.declared.desk.Desk.{Desk as DeskType}
use Rattle.line_replies.specs.declared.short_reply.ShortReply.{ShortReply}
use Rattle.line_replies.specs.ReplyTexts.{short_text}
use Rattle.table_server.specs.declared.line_set.LineSet.{LineSet}
use Rattle.table_server.specs.declared.line_set.LineSet.TheVariants.{Protocol, Corrections}
use Rattle.table_pages.specs.declared.page_texts.PageTexts.{PageTexts}
use Rattle.table_pages.specs.Failing.{TellsState}
use Rattle.table_pages.specs.People.{names_text}
use Rattle.table_pages.specs.Refused.{TellsRefused}
use Rattle.table_pages.specs.Site.{Site}

-- over a server of lines: from one state, a body is answered by a text or by none, and leaves another state
module _ {T : Type 0} (answers : T → List ℕ → Option (List ℕ) → T → Type 0) where
  -- Lines were answered, and the response is the text of the replies; or memory was refused, and it says nothing.
  abbrev pub TellsLines : T → List ℕ → Response → T → Type 0
  TellsLines old body response new =
      ((text : List ℕ) × answers old body (Some text) new × IsText kind.Lines text response)
      ⊎ (((text : Option (List ℕ)) × answers old body text new) × IsUnavailable response)

  -- a body of 65,536 bytes or more is refused
  abbrev pub TellsShort : Bool → T → List ℕ → Response → T → Type 0
  TellsShort true old body response new = TellsLines old body response new
  TellsShort false old body response new = IsRefused TooLong response × (new ≡ old)

-- over a server of lines of either set, which may have failed
module _ {T : Type 0} (answers : LineSet → T → List ℕ → Option (List ℕ) → T → Type 0) (failed : T → Bool) where
  module _ (places tables : T → List ℕ → List ℕ) (waits : T → List ℕ → ShortReply) (boards : T → Bool → List ℕ → List ℕ) (desks : T → DeskType → ℕ → List ℕ → List ℕ) (results : T → List ℕ → List ℕ → Type 0) where
    module _ (texts : PageTexts) (people : List ℕ) where
      -- the response to a request on this route: the text of the page, script or style that the pages were made with, the
      -- replies to its lines, or what is told to the holder of the key that it has, while the server has not failed
      abbrev pub Responds : Route → T → List ℕ → Response → T → Type 0
      Responds Page old body response new = IsText kind.Page texts.page.now response × (new ≡ old)
      Responds TextsScript old body response new = IsText kind.Script texts.texts_script.now response × (new ≡ old)
      Responds SharedScript old body response new = IsText kind.Script texts.shared_script.now response × (new ≡ old)
      Responds TableScript old body response new = IsText kind.Script texts.table_script.now response × (new ≡ old)
      Responds BoardsScript old body response new = IsText kind.Script texts.boards_script.now response × (new ≡ old)
      Responds DeskScript old body response new = IsText kind.Script texts.desk_script.now response × (new ≡ old)
      Responds DirectorScript old body response new = IsText kind.Script texts.director_script.now response × (new ≡ old)
      Responds Style old body response new = IsText kind.Style texts.style.now response × (new ≡ old)
      Responds Lines old body response new = TellsShort (answers Protocol) (nat_lt (length body) 65536) old body response new
      Responds Correct old body response new = TellsShort (answers Corrections) (nat_lt (length body) 65536) old body response new
      Responds Place old body response new = TellsState (failed old) (places old body) response × (new ≡ old)
      Responds Tables old body response new = TellsState (failed old) (tables old body) response × (new ≡ old)
      Responds Boards old body response new = ((is_open : Bool) × TellsState (failed old) (boards old is_open body) response) × (new ≡ old)
      Responds Results old body response new = ((text : List ℕ) × results old body text × TellsState (failed old) text response) × (new ≡ old)
      Responds Desk old body response new =
          ((desk : DeskType) × (at : ℕ) × (TellsState (failed old) (desks old desk at body) response ⊎ IsUnavailable response)) × (new ≡ old)
      Responds Wait old body response new = IsText kind.Lines (short_text (waits old body)) response × (new ≡ old)
      Responds Names old body response new = IsText kind.Lines (names_text people (waits old body)) response × (new ≡ old)
      Responds (Refused why) old body response new = TellsRefused texts why response × (new ≡ old)

    -- the response to a request at this site
    abbrev pub Answering : Site → T → Request (List ℕ) → Response → T → Type 0
    Answering site old request response new =
        Responds site.texts site.people (route_for site.host site.alias (head_of request)) old (body_of request) response new
