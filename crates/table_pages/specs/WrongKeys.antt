-- How many wrong keys came: keys that are nobody's.
use Rattle.std.specs.Prelude.{◌≡◌, ◌⊎◌, ℕ, ◌+◌, nat_lt, Bool, true, false, if◌then◌else◌, min, length, List, Option, None}
use Rattle.table_pages.specs.FirstLine.{first_line}
use Rattle.table_server.specs.declared.line_set.LineSet.{LineSet}
use Rattle.table_server.specs.declared.line_set.LineSet.TheVariants.{Protocol, Corrections}
use Rattle.web_requests.specs.declared.route.Route.{Route}
use Rattle.web_requests.specs.declared.route.Route.TheVariants.{Lines, Correct, Place, Tables, Boards, Results, Desk, Wait, Names}

-- so many more, as far as 64 bits count
abbrev pub with_more : ℕ → ℕ → ℕ
with_more count more = min (count + more) 18446744073709551615

-- and one more, if a key is wrong
abbrev pub with_key : ℕ → Bool → ℕ
with_key count wrong = with_more count (if wrong then 1 else 0)

-- those of posted lines: as many as are said of them; where the server gave no replies, none are counted
abbrev pub CountsLines : (ℕ → Type 0) → Type 0 → ℕ → ℕ → Type 0
CountsLines Counted GaveNone old new = ((count : ℕ) × Counted count × (new ≡ with_more old count)) ⊎ (GaveNone × (new ≡ old))

-- and of a body of 65,536 bytes or more, which is refused, none
abbrev pub CountsShort : Bool → (ℕ → Type 0) → Type 0 → ℕ → ℕ → Type 0
CountsShort true Counted GaveNone old new = CountsLines Counted GaveNone old new
CountsShort false Counted GaveNone old new = new ≡ old

-- over a server of lines: how it answers, and how many lines of these bytes have a wrong key
module _ {T : Type 0} (answers : LineSet → T → List ℕ → Option (List ℕ) → T → Type 0) (counts : LineSet → T → List ℕ → ℕ → Type 0) where
  -- those of posted lines of a set, which left the server so
  abbrev pub CountsPosted : LineSet → T → List ℕ → T → ℕ → ℕ → Type 0
  CountsPosted set server body left old new =
      CountsShort (nat_lt (length body) 65536) (counts set server body) (answers set server body None left) old new

  -- whether these bytes are a wrong key, ask for boards by one, or ask of the desk by one
  module _ (wrong_key wrong_at_boards wrong_at_desk : T → List ℕ → Bool) where
    -- what is counted at a request on this route with this body, which left the server so
    abbrev pub Counts : Route → T → List ℕ → T → ℕ → ℕ → Type 0
    Counts Lines server body left old new = CountsPosted Protocol server body left old new
    Counts Correct server body left old new = CountsPosted Corrections server body left old new
    Counts Place server body left old new = new ≡ with_key old (wrong_key server body)
    Counts Tables server body left old new = new ≡ with_key old (wrong_key server body)
    Counts Boards server body left old new = new ≡ with_key old (wrong_at_boards server body)
    Counts Results server body left old new = new ≡ with_key old (wrong_key server body)
    Counts Desk server body left old new = new ≡ with_key old (wrong_at_desk server body)
    Counts Wait server body left old new = new ≡ with_key old (wrong_key server (first_line body))
    Counts Names server body left old new = new ≡ with_key old (wrong_key server (first_line body))
    Counts _ server body left old new = new ≡ old
