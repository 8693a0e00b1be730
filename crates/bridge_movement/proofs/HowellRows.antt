-- The rows of the Howell movements, tried one by one and two by two.
use Rattle.std.proofs.Common.{ℕ, ◌≡◌, ◌+◌, ◌*◌, ◌-◌, ◌≤◌, ◌⊎◌, Bool, true, not, ◌&&◌, ◌||◌, ◌==◌, refl, sym, subst, inl, inr, arith}
use Rattle.std.specs.Prelude.{nat_le}
use Rattle.bridge_movement.specs.declared.row.Row.{Row}
use Rattle.bridge_movement.specs.Howell.{howell_row_at}
use Rattle.bridge_movement.proofs.Counting.{every, some}

-- how many rows there are
abbrev pub rows_of : ℕ → ℕ
rows_of tables = (2 * tables - 1) * tables

-- the pair stands in the row
abbrev pub sits : Row → ℕ → Bool
sits row pair = row.ns == pair || row.ew == pair

-- numbers are within the shape, and the pairs are two
abbrev pub is_within : ℕ → Row → Bool
is_within tables row =
    nat_le 1 row.ns && nat_le row.ns (2 * tables) && nat_le 1 row.ew && nat_le row.ew (2 * tables)
    && not (row.ns == row.ew) && nat_le 1 row.set && nat_le row.set (2 * tables - 1)

-- some pair stands in both rows
abbrev pub shares : Row → Row → Bool
shares a b = sits a b.ns || sits a b.ew

-- the same two pairs stand in both rows
abbrev pub meet_again : Row → Row → Bool
meet_again a b = sits a b.ns && sits a b.ew

-- no pair is in both rows, where they have one round or one set; the pairs are not the same two
abbrev pub is_apart : Row → Row → Bool
is_apart a b = not ((a.round == b.round || a.set == b.set) && shares a b) && not (meet_again a b)

-- each row is within the shape, and apart from each before it
abbrev pub are_apart : ℕ → Bool
are_apart tables =
    every (rows_of tables) (λ j.
    is_within tables (howell_row_at tables j)
    && every j (λ i. is_apart (howell_row_at tables i) (howell_row_at tables j)))

-- two pairs play against each other in the row
abbrev pub do_meet : ℕ → ℕ → Row → Bool
do_meet one other row = (row.ns == one && row.ew == other) || (row.ns == other && row.ew == one)

-- each two pairs meet in some row
abbrev pub all_meet : ℕ → Bool
all_meet tables =
    every (2 * tables) (λ one.
    every (2 * tables) (λ other.
    one == other || some (rows_of tables) (λ k. do_meet (one + 1) (other + 1) (howell_row_at tables k))))

-- the pair stands in the row, which has the set
abbrev pub does_play : ℕ → ℕ → Row → Bool
does_play pair set row = row.set == set && sits row pair

-- each pair plays each set in some row
abbrev pub all_play : ℕ → Bool
all_play tables =
    every (2 * tables) (λ pair.
    every (2 * tables - 1) (λ set.
    some (rows_of tables) (λ k. does_play (pair + 1) (set + 1) (howell_row_at tables k))))

-- no two rows of a round have one set
abbrev pub have_own_sets : ℕ → Bool
have_own_sets tables =
    every (rows_of tables) (λ j.
    every j (λ i.
    not ((howell_row_at tables i).round == (howell_row_at tables j).round
    && (howell_row_at tables i).set == (howell_row_at tables j).set)))

-- all that is tried of the movement of so many tables
pub record IsTried (tables : ℕ) : Type 0 where
  pub apart : are_apart tables ≡ true
  pub meet : all_meet tables ≡ true
  pub play : all_play tables ≡ true
  pub own_sets : (nat_le tables 3 || have_own_sets tables) ≡ true

tried_2 : IsTried 2
tried_2 = record { apart = refl; meet = refl; play = refl; own_sets = refl }

tried_3 : IsTried 3
tried_3 = record { apart = refl; meet = refl; play = refl; own_sets = refl }

tried_4 : IsTried 4
tried_4 = record { apart = refl; meet = refl; play = refl; own_sets = refl }

tried_5 : IsTried 5
tried_5 = record { apart = refl; meet = refl; play = refl; own_sets = refl }

tried_6 : IsTried 6
tried_6 = record { apart = refl; meet = refl; play = refl; own_sets = refl }

two_to_six : (tables : ℕ) → 2 ≤ tables → tables ≤ 6 →
    (tables ≡ 2) ⊎ ((tables ≡ 3) ⊎ ((tables ≡ 4) ⊎ ((tables ≡ 5) ⊎ (tables ≡ 6))))
two_to_six tables least most = grind arith

pub tried : (tables : ℕ) → 2 ≤ tables → tables ≤ 6 → IsTried tables
tried tables least most =
    elim (two_to_six tables least most) [
      | inl is ↦ subst IsTried (sym is) tried_2
      | inr (inl is) ↦ subst IsTried (sym is) tried_3
      | inr (inr (inl is)) ↦ subst IsTried (sym is) tried_4
      | inr (inr (inr (inl is))) ↦ subst IsTried (sym is) tried_5
      | inr (inr (inr (inr is))) ↦ subst IsTried (sym is) tried_6
    ]
