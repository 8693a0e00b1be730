-- Where a request goes.
use Rattle.std.specs.Prelude.{ℕ, Bool, false, ◌&&◌, ◌||◌, List, Option, Some, None, bytes_eq, codes, if◌then◌else◌}
use Rattle.http.specs.declared.request.Parts.{Parts}
use Rattle.http_header.specs.FieldValue.{FieldValue}
use Rattle.http_header.specs.HeaderMap.{get}
use Rattle.http_uri.specs.Uri.{uri_authority, uri_path, uri_query}
use Rattle.web_requests.specs.declared.route.Route.{Route}
use Rattle.web_requests.specs.declared.route.Route.TheVariants.{Page, TextsScript, SharedScript, TableScript, BoardsScript, DeskScript, DirectorScript, Style, Lines, Correct, Place, Tables, Boards, Results, Desk, Wait, Names, Refused}
use Rattle.web_requests.specs.declared.route.Refusal.TheVariants.{Misdirected, NotFound, OnlyRead, OnlyPosted, WrongType}

-- there is a value, and it is this text
abbrev pub is_value : List ℕ → Option FieldValue → Bool
is_value text None = false
is_value text (Some value) = bytes_eq value.bytes text

-- the host that a request names is one of two
abbrev pub is_host : List ℕ → List ℕ → Option FieldValue → Bool
is_host host alias value = is_value host value || is_value alias value

-- A request names this server: its target has no host of its own, and the one that its header names is one of two.
abbrev pub is_addressed : List ℕ → List ℕ → Option (List ℕ) → Option FieldValue → Bool
is_addressed host alias (Some authority) value = false
is_addressed host alias None value = is_host host alias value

-- what a request's line and fields say of where it goes
abbrev pub is_here : List ℕ → List ℕ → Parts → Bool
is_here host alias head = is_addressed host alias (uri_authority head.uri) (get head.headers (codes "host"))

-- the type of a body that is lines of the protocol
abbrev pub lines_type : List ℕ
lines_type = codes "application/x-table-lines"

-- a method by which something is read
abbrev pub is_read : List ℕ → Bool
is_read method = bytes_eq method (codes "GET") || bytes_eq method (codes "HEAD")

-- what is read alone
abbrev pub reading : Route → List ℕ → Route
reading route method = if is_read method then route else Refused OnlyRead

-- what lines are posted to, with no query behind its path
abbrev pub posting_to : Route → Parts → Route
posting_to route head =
    if bytes_eq head.method (codes "POST")
    then (if is_value lines_type (get head.headers (codes "content-type")) then route else Refused WrongType)
    else Refused OnlyPosted

-- what lines are posted to, by the query behind its path
abbrev pub posting_by : Option (List ℕ) → Route → Parts → Route
posting_by None route head = posting_to route head
posting_by (Some query) route head = Refused NotFound

-- what lines are posted to
abbrev pub posting : Route → Parts → Route
posting route head = posting_by (uri_query head.uri) route head

-- the paths that there are
abbrev pub route_at : List ℕ → Parts → Route
route_at path head =
    if bytes_eq path (codes "/") then reading Page head.method else (
    if bytes_eq path (codes "/texts.js") then reading TextsScript head.method else (
    if bytes_eq path (codes "/shared.js") then reading SharedScript head.method else (
    if bytes_eq path (codes "/table.js") then reading TableScript head.method else (
    if bytes_eq path (codes "/boards.js") then reading BoardsScript head.method else (
    if bytes_eq path (codes "/desk.js") then reading DeskScript head.method else (
    if bytes_eq path (codes "/director.js") then reading DirectorScript head.method else (
    if bytes_eq path (codes "/table.css") then reading Style head.method else (
    if bytes_eq path (codes "/lines") then posting Lines head else (
    if bytes_eq path (codes "/correct") then posting Correct head else (
    if bytes_eq path (codes "/place") then posting Place head else (
    if bytes_eq path (codes "/tables") then posting Tables head else (
    if bytes_eq path (codes "/boards") then posting Boards head else (
    if bytes_eq path (codes "/results") then posting Results head else (
    if bytes_eq path (codes "/desk") then posting Desk head else (
    if bytes_eq path (codes "/wait") then posting Wait head else (
    if bytes_eq path (codes "/names") then posting Names head else Refused NotFound))))))))))))))))

-- where a request under another name goes: the style alone is read there, so that the page which says so has it
abbrev pub route_elsewhere : List ℕ → List ℕ → Route
route_elsewhere path method = if bytes_eq path (codes "/table.css") && is_read method then Style else Refused Misdirected

-- where a request goes that came to a server of these two names
abbrev pub route_for : List ℕ → List ℕ → Parts → Route
route_for host alias head =
    if is_here host alias head then route_at (uri_path head.uri) head else route_elsewhere (uri_path head.uri) head.method
