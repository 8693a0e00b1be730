-- What is told of a session by a server of lines that may have failed.
use Rattle.std.specs.Prelude.{Bool, true, false, List, ℕ}
use Rattle.http_server.specs.declared.response.Response.{Response}
use Rattle.web_requests.specs.declared.kind.Kind.TheVariants as kind
use Rattle.web_requests.specs.Filled.{IsText, IsUnavailable}

-- the response is this text; once the server has failed it says nothing, since no disk may hold what the text tells
abbrev pub TellsState : Bool → List ℕ → Response → Type 0
TellsState false text response = IsText kind.Lines text response
TellsState true text response = IsUnavailable response
