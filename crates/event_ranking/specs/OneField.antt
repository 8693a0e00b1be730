-- Several sessions as one field: sections that play the same boards, whose scores are compared with one another (Law 78).
use Rattle.std.specs.Prelude.{◌≡◌, ◌<◌, ⊤, ℕ, List, length, take, slice_index_or, Option, Some, None, AllPairs}
use Rattle.bridge_cards.specs.Board.{IsBoard}
use Rattle.session_rules.specs.State.{SessionValue, Deals, deal_on}
use Rattle.event_ranking.specs.declared.field.Difference.{Difference}
use Rattle.event_ranking.specs.declared.field.Difference.TheVariants.{Scoring, Boards, Deal}
use Rattle.event_ranking.specs.declared.field.SectionsRefused.{SectionsRefused}

-- scores are compared in one way
abbrev pub HaveOneScoring : SessionValue → SessionValue → Type 0
HaveOneScoring s t = s.configuration.scoring ≡ t.configuration.scoring

-- a set has as many boards
abbrev pub HaveOneSize : SessionValue → SessionValue → Type 0
HaveOneSize s t = s.configuration.boards ≡ t.configuration.boards

-- the same where both are there
abbrev pub AreSameIfBoth : Option (List ℕ) → Option (List ℕ) → Type 0
AreSameIfBoth (Some ours) (Some theirs) = ours ≡ theirs
AreSameIfBoth (Some ours) None = ⊤
AreSameIfBoth None theirs = ⊤

-- the deal of a board is the same where both have it dealt
abbrev pub HaveOneDeal : Deals → Deals → ℕ → Type 0
HaveOneDeal ours theirs board = AreSameIfBoth (deal_on ours board) (deal_on theirs board)

-- so is that of each board
abbrev pub HaveOneDealEach : Deals → Deals → Type 0
HaveOneDealEach ours theirs = (board : ℕ) → IsBoard board → HaveOneDeal ours theirs board

-- two sessions can be compared: scoring, boards a set, and the deals that both have are the same
pub record CanCompare (s t : SessionValue) : Type 0 where
  pub scoring : HaveOneScoring s t
  pub boards : HaveOneSize s t
  pub deals : HaveOneDealEach s.deals t.deals

-- The sessions are one field: any two of them can be compared.
abbrev pub IsField : List SessionValue → Type 0
IsField sections = AllPairs CanCompare sections

-- the board is the first of which both have a deal, and not the same
pub record IsFirstOtherDeal (ours theirs : Deals) (board : ℕ) : Type 0 where
  pub there : IsBoard board
  pub other : ¬ HaveOneDeal ours theirs board
  pub first : (earlier : ℕ) → IsBoard earlier → earlier < board → HaveOneDeal ours theirs earlier

-- the first thing in which two sessions differ: scoring, boards a set, or the deal of the first board
abbrev pub IsFirstDifference : SessionValue → SessionValue → Difference → Type 0
IsFirstDifference s t Scoring = ¬ HaveOneScoring s t
IsFirstDifference s t Boards = HaveOneScoring s t × ¬ HaveOneSize s t
IsFirstDifference s t (Deal board) =
    HaveOneScoring s t × HaveOneSize s t × IsFirstOtherDeal s.deals t.deals board

-- the section at an index can be compared with so many from the first on
abbrev pub CanCompareWith : List SessionValue → ℕ → ℕ → Type 0
CanCompareWith sections index count =
    (i : ℕ) (d : SessionValue) → i < count → CanCompare (slice_index_or sections i d) (slice_index_or sections index d)

-- the refusal of the section at an index: the first before it with which it cannot be compared, and in what they differ
pub record IsRefusalAt (sections : List SessionValue) (index : ℕ) (refused : SectionsRefused) : Type 0 where
  pub of : refused.index ≡ index
  pub earlier : refused.earlier < index
  pub first : CanCompareWith sections index refused.earlier
  pub differs : (d : SessionValue) →
      IsFirstDifference (slice_index_or sections refused.earlier d) (slice_index_or sections index d) refused.difference

-- The first section that is refused: those before it are one field.
pub record IsFirstRefusal (sections : List SessionValue) (refused : SectionsRefused) : Type 0 where
  pub within : refused.index < length sections
  pub before : IsField (take refused.index sections)
  pub refusal : IsRefusalAt sections refused.index refused
