-- Whether players are told of other tables.
use Rattle.std.specs.Prelude.{◌≡◌, ℕ, Bool, List}
use Rattle.http_server.specs.declared.response.Response.{Response}
use Rattle.web_requests.specs.declared.route.Route.{Route}
use Rattle.web_requests.specs.declared.route.Route.TheVariants.{Boards}
use Rattle.table_pages.specs.Failing.{TellsState}

-- Over a server: what is told of boards is told by whether players were told of other tables before the request, and its body
-- says whether they are from then on. No other request changes that.
module _ {T : Type 0} (failed : T → Bool) (boards : T → Bool → List ℕ → List ℕ) (opens : T → Bool → List ℕ → Bool) where
  abbrev pub Opens : Route → T → Bool → List ℕ → Response → Bool → Type 0
  Opens Boards server is_open body response opened = TellsState (failed server) (boards server is_open body) response × (opened ≡ opens server is_open body)
  Opens _ server is_open body response opened = opened ≡ is_open
