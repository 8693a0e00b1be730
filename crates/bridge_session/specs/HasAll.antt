-- Whether a session has all that was dealt, called and played in another.
use Rattle.std.specs.Prelude.{◌≡◌, ◌⊎◌, ◌≤◌, ◌++◌, ℕ, ⊤, List, Option, None}
use Rattle.std.specs.List.{AllZip}
use Rattle.session_rules.specs.declared.act.Act.{Act}
use Rattle.session_rules.specs.declared.act.Act.TheVariants as act
use Rattle.session_rules.specs.Record.{PlainRecord}
use Rattle.session_rules.specs.State.{SessionValue, row_at}

-- a list begins with another
pub record BeginsWith {A : Type 0} (xs start : List A) : Type 0 where
  pub rest : List A
  pub is : xs ≡ start ++ rest

-- a play of the same board, of which the calls and the cards begin with those of the other
pub record HasPlay (ours theirs : PlainRecord) : Type 0 where
  pub board : ours.board ≡ theirs.board
  pub calls : BeginsWith ours.calls theirs.calls
  pub cards : BeginsWith ours.cards theirs.cards

-- the deal of a board, where the other has one, is the same
abbrev pub HasDeal : Option (List ℕ) → Option (List ℕ) → Type 0
HasDeal ours theirs = (theirs ≡ None) ⊎ (ours ≡ theirs)

-- A session has all that another of its configuration has: no round of it is still to come, and nothing that was dealt, called or
-- played in it is missing. Claims and rulings are not looked at.
pub record HasAllOf (s t : SessionValue) : Type 0 where
  pub round : t.round ≤ s.round
  pub deals : AllZip HasDeal s.deals t.deals
  pub plays : AllZip (AllZip HasPlay) s.records t.records

-- of the plays of a row nothing of another session is missing
abbrev pub HasRowOf : SessionValue → SessionValue → ℕ → Type 0
HasRowOf s t index = AllZip HasPlay (row_at s.records index) (row_at t.records index)

-- an act that takes nothing back
abbrev pub TakesNothingBack : Act → Type 0
TakesNothingBack (act.Undeal key board) = ⊥
TakesNothingBack (act.Back key play) = ⊥
TakesNothingBack other = ⊤
