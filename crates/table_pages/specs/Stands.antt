-- What stands beside the session.
use Rattle.std.specs.Prelude.{◌≡◌, ◌⊎◌, ℕ, Bool, List}
use Rattle.desk_replies.specs.declared.desk.Desk.{Desk as DeskType}
use Rattle.http_server.specs.declared.response.Response.{Response}
use Rattle.web_requests.specs.declared.route.Route.{Route}
use Rattle.web_requests.specs.declared.route.Route.TheVariants.{Desk}
use Rattle.web_requests.specs.Filled.{IsUnavailable}
use Rattle.table_pages.specs.Failing.{TellsState}

module _ {T : Type 0} (failed : T → Bool) (desks : T → DeskType → ℕ → List ℕ → List ℕ) (stands : T → DeskType → ℕ → List ℕ → DeskType) (shows : ℕ → Type 0) where
  -- What was asked at a second that the clock shows was told by what stood before, and is what stands from then on; where memory
  -- is refused, or the server has failed, nothing is told.
  pub record AnswersDesk (server : T) (old : DeskType) (body : List ℕ) (response : Response) (new : DeskType) : Type 0 where
    pub at : ℕ
    pub shown : shows at
    pub told : TellsState (failed server) (desks server old at body) response ⊎ IsUnavailable response
    pub left : new ≡ stands server old at body

  -- no other request changes what stands
  abbrev pub Stands : Route → T → DeskType → List ℕ → Response → DeskType → Type 0
  Stands Desk server old body response new = AnswersDesk server old body response new
  Stands _ server old body response new = new ≡ old
