-- What responses say.
use Rattle.std.specs.Prelude.{ℕ, List, [], ◌∷◌, ◌++◌, codes}
use Rattle.http1.specs.Fields.{Header}
use Rattle.http_server.specs.declared.response.Response.{Response}
use Rattle.http_server.specs.Response.{IsResponse}
use Rattle.web_requests.specs.declared.kind.Kind.{Kind}
use Rattle.web_requests.specs.declared.kind.Kind.TheVariants.{Page, Script, Style, Lines}
use Rattle.web_requests.specs.declared.route.Refusal.{Refusal}
use Rattle.web_requests.specs.declared.route.Refusal.TheVariants.{Misdirected, NotFound, OnlyRead, OnlyPosted, WrongType, TooLong}
use Rattle.web_requests.specs.Route.{lines_type}

-- the content type of a text
abbrev pub type_of : Kind → List ℕ
type_of Page = codes "text/html; charset=utf-8"
type_of Script = codes "text/javascript; charset=utf-8"
type_of Style = codes "text/css; charset=utf-8"
type_of Lines = lines_type

-- nothing comes from elsewhere, nothing is sent elsewhere, and no frame shows the page
abbrev pub policy : List ℕ
policy = codes "default-src 'none'; script-src 'self'; style-src 'self'; connect-src 'self'; img-src data:; base-uri 'none'; form-action 'none'; frame-ancestors 'none'"

-- the headers of each response: it is kept by no cache, read as no other type, used by no page of another site
abbrev pub guard_fields : List Header
guard_fields =
    (codes "cache-control", codes "no-store")
    ∷ (codes "x-content-type-options", codes "nosniff")
    ∷ (codes "referrer-policy", codes "no-referrer")
    ∷ (codes "cross-origin-resource-policy", codes "same-origin")
    ∷ (codes "content-security-policy", policy)
    ∷ []

-- the headers of a text
abbrev pub text_fields : Kind → List Header
text_fields kind = (codes "content-type", type_of kind) ∷ guard_fields

-- a text of this kind
abbrev pub IsText : Kind → List ℕ → Response → Type 0
IsText kind text = IsResponse 200 (text_fields kind) text

-- the status of a refusal
abbrev pub status_of : Refusal → ℕ
status_of Misdirected = 421
status_of NotFound = 404
status_of OnlyRead = 405
status_of OnlyPosted = 405
status_of WrongType = 415
status_of TooLong = 413

-- which methods are allowed, where another was used
abbrev pub allow_fields : Refusal → List Header
allow_fields Misdirected = []
allow_fields NotFound = []
allow_fields OnlyRead = (codes "allow", codes "GET, HEAD") ∷ []
allow_fields OnlyPosted = (codes "allow", codes "POST") ∷ []
allow_fields WrongType = []
allow_fields TooLong = []

-- a refusal, without a body
abbrev pub IsRefused : Refusal → Response → Type 0
IsRefused refusal = IsResponse (status_of refusal) (guard_fields ++ allow_fields refusal) []

-- a refusal that a page explains; it is none that allows another method
abbrev pub IsExplained : Refusal → List ℕ → Response → Type 0
IsExplained refusal text = IsResponse (status_of refusal) (text_fields Page) text

-- the answer where memory was refused: 503, and nothing more
abbrev pub IsUnavailable : Response → Type 0
IsUnavailable = IsResponse 503 [] []
