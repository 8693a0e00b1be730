-- The Howell movement. Rounds, tables and indexes of rows count from 0 here; pairs and sets are numbered from 1.
use Rattle.std.specs.Prelude.{ℕ, ◌≡◌, ◌≢◌, ◌<◌, ◌≤◌, ◌+◌, ◌*◌, ◌-◌, ◌/◌, ◌%◌, ◌==◌, nat_le, if◌then◌else◌, ◌⊎◌, List, [], length, slice_index_or, Any, AllPairs}
use Rattle.bridge_movement.specs.declared.howell.TheConstants.{TWO_TABLES, THREE_TABLES, FOUR_TABLES, FIVE_TABLES, SIX_TABLES}
use Rattle.bridge_movement.specs.declared.row.Row.{Row}
use Rattle.bridge_movement.specs.declared.shape.Shape.{Shape}
use Rattle.bridge_movement.specs.Row.{IsLive, SitsIn, MeetAgain}
use Rattle.bridge_movement.specs.Shape.{IsBetween}

-- as many rounds and sets as a pair has opponents, and one field of all pairs
abbrev pub howell_shape : ℕ → Shape
howell_shape tables = record {
  tables = tables;
  rounds = 2 * tables - 1;
  sets = 2 * tables - 1;
  pairs = 2 * tables;
  split = 2 * tables;
}

-- the two pairs play against each other
abbrev pub Meet : ℕ → ℕ → Row → Type 0
Meet one other row = ((row.ns ≡ one) × (row.ew ≡ other)) ⊎ ((row.ns ≡ other) × (row.ew ≡ one))

-- the pair plays the set
abbrev pub PlaysSet : ℕ → ℕ → Row → Type 0
PlaysSet pair set row = IsLive row × (row.set ≡ set) × SitsIn row pair

-- two tables of one round have one set
abbrev pub ShareASet : Row → Row → Type 0
ShareASet a b = (a.round ≡ b.round) × (a.set ≡ b.set)

-- each pair meets each other one once and plays each set (once, as in each movement), and from four tables on no two
-- tables have one set in a round
pub record IsHowell (shape : Shape) (rows : List Row) : Type 0 where
  pub opponents : (one other : ℕ) → IsBetween 1 shape.pairs one → IsBetween 1 shape.pairs other → one ≢ other
      → Any (Meet one other) rows
  pub once : AllPairs (λ a b. ¬ MeetAgain a b) rows
  pub sets : (pair set : ℕ) → IsBetween 1 shape.pairs pair → IsBetween 1 shape.sets set → Any (PlaysSet pair set) rows
  pub set_a_table : 4 ≤ shape.tables → AllPairs (λ a b. ¬ ShareASet a b) rows

-- who meets whom in the first round, by table: North and South, East and West, and their set
abbrev pub first_round : ℕ → List (List ℕ)
first_round tables =
    if tables == 2 then TWO_TABLES
    else if tables == 3 then THREE_TABLES
    else if tables == 4 then FOUR_TABLES
    else if tables == 5 then FIVE_TABLES
    else SIX_TABLES

-- a pair's or a set's number after so many rounds: it goes on by one a round, and 1 comes after the highest; the number
-- above the highest stays
abbrev pub gone_on : ℕ → ℕ → ℕ → ℕ
gone_on highest round number = if nat_le number highest then (number - 1 + round) % highest + 1 else number

-- a number of a table's in the first round
abbrev pub first_number : ℕ → ℕ → ℕ → ℕ
first_number tables table place = slice_index_or (slice_index_or (first_round tables) table []) place 0

-- each pair but the last goes on to where the pair before it in number was, and the sets go on likewise
abbrev pub howell_row : ℕ → ℕ → ℕ → Row
howell_row tables round table = record {
  round = round + 1;
  table = table + 1;
  ns = gone_on (2 * tables - 1) round (first_number tables table 0);
  ew = gone_on (2 * tables - 1) round (first_number tables table 1);
  set = gone_on (2 * tables - 1) round (first_number tables table 2);
}

-- the row at an index
abbrev pub howell_row_at : ℕ → ℕ → Row
howell_row_at tables index = howell_row tables (index / tables) (index % tables)

-- each row is the one of its round and table
abbrev pub FollowsHowell : ℕ → List Row → Type 0
FollowsHowell tables rows =
    (index : ℕ) (d : Row) → index < length rows → slice_index_or rows index d ≡ howell_row_at tables index
