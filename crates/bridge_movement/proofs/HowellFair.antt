-- The Howell movement is fair, and is what a Howell is.
use Rattle.std.proofs.Common.{ℕ, ◌≡◌, ◌≢◌, ◌+◌, ◌*◌, ◌-◌, ◌<◌, ◌≤◌, Bool, true, not, ◌&&◌, ◌||◌, ◌==◌, List, [], ◌∷◌, ◌++◌, length, slice_index_or, subst, sym, ap, arith}
use Rattle.std.specs.Prelude.{All, AllPairs, Any, nat_le}
use Rattle.std.proofs.lemmas.Bool.Decides.{nat_tests}
use Rattle.std.proofs.lemmas.Grind.{common_steps}
use Rattle.bridge_movement.specs.declared.row.Row.{Row}
use Rattle.bridge_movement.specs.Fair.{IsComplete, IsFair, IsMovement, HasPairsWithin, HasTwoPairs, HasSetWithin}
use Rattle.bridge_movement.specs.Howell.{howell_shape, howell_row_at, FollowsHowell, IsHowell, Meet, PlaysSet, ShareASet}
use Rattle.bridge_movement.specs.Row.{SeatPairTwice, PlaySetAgain, MeetAgain}
use Rattle.bridge_movement.specs.Shape.{IsShape, IsBetween}
use Rattle.bridge_movement.proofs.Counting.{both_parts, every_tells, some, some_tells}
use Rattle.bridge_movement.proofs.HowellRows.{rows_of, is_within, is_apart, do_meet, does_play, have_own_sets, IsTried, tried}

-- what a row is that is within the shape
pub record IsWithin (tables : ℕ) (row : Row) : Type 0 where
  pub ns : IsBetween 1 (2 * tables) row.ns
  pub ew : IsBetween 1 (2 * tables) row.ew
  pub two : row.ns ≢ row.ew
  pub set : IsBetween 1 (2 * tables - 1) row.set

within_tells : (tables round table ns ew set : ℕ) →
    let row : Row = record { round = round; table = table; ns = ns; ew = ew; set = set } in
    is_within tables row ≡ true → IsWithin tables row
within_tells tables round table ns ew set h = record {
  ns = grind (arith, nat_tests);
  ew = grind (arith, nat_tests);
  two = grind (arith, nat_tests);
  set = grind (arith, nat_tests);
}

-- what two rows are that are apart
pub record AreApart (a b : Row) : Type 0 where
  pub round : ¬ SeatPairTwice a b
  pub set : ¬ PlaySetAgain a b
  pub meeting : ¬ MeetAgain a b

apart_tells : (a b : Row) → is_apart a b ≡ true → AreApart a b
apart_tells a b h = record {
  round = λ (round, (pair, some, in_a, in_b)). grind (arith, nat_tests);
  set = λ (live, live', set, (pair, some, in_a, in_b)). grind (arith, nat_tests);
  meeting = λ (live, live', same). grind (arith, nat_tests);
}

-- one more row that follows the rule
pub one_more : (f : ℕ → Row) (rows more : List Row) (row : Row) (n : ℕ) → more ≡ rows ++ row ∷ [] → length rows ≡ n →
    ((k : ℕ) (d : Row) → k < length rows → slice_index_or rows k d ≡ f k) → row ≡ f n →
    (k : ℕ) (d : Row) → k < length more → slice_index_or more k d ≡ f k
one_more f rows more row n is count follows next k d below = grind (arith, common_steps)

-- what holds of each row of the rule
each_row : (P : Row → Type 0) (T : ℕ) (rows : List Row) → FollowsHowell T rows →
    ((k : ℕ) → k < length rows → P (howell_row_at T k)) → All P rows
each_row P T rows rule holds k d within = subst P (sym (rule k d within)) (holds k within)

-- what holds of each two rows of the rule
each_two : (R : Row → Row → Type 0) (T : ℕ) (rows : List Row) → FollowsHowell T rows →
    ((i j : ℕ) → i < j → j < length rows → R (howell_row_at T i) (howell_row_at T j)) → AllPairs R rows
each_two R T rows rule holds i j d less within =
    let first = rule i d (omega arith) in
    let second = rule j d within in
    let P : Row → Type 0 = λ a. R a (slice_index_or rows j d) in
    let Q : Row → Type 0 = λ b. R (howell_row_at T i) b in
    subst P (sym first) (subst Q (sym second) (holds i j less within))

-- what holds of a row of the rule
one_row : (P : Row → Type 0) (T : ℕ) (rows : List Row) → FollowsHowell T rows →
    (k : ℕ) → k < length rows → P (howell_row_at T k) → Any P rows
one_row P T rows rule k within holds =
    let row : Row = howell_row_at T k in (k, row, within, rule k row within, holds)

-- the row of an index, within the shape, and apart from one before it
row_at : (T k : ℕ) → IsTried T → k < rows_of T → IsWithin T (howell_row_at T k)
row_at T k tried within =
    let here = every_tells (rows_of T) _ tried.apart k within in
    within_tells T _ _ _ _ _ (both_parts _ _ here).0

apart_at : (T i j : ℕ) → IsTried T → i < j → j < rows_of T → AreApart (howell_row_at T i) (howell_row_at T j)
apart_at T i j tried less within =
    let here = every_tells (rows_of T) _ tried.apart j within in
    apart_tells _ _ (every_tells j _ (both_parts _ _ here).1 i less)

howell_complete : (T : ℕ) (rows : List Row) → length rows ≡ rows_of T → FollowsHowell T rows →
    IsComplete (howell_shape T) rows
howell_complete T rows count rule = record {
  count = count;
  order = λ k within. (
    omega arith,
    λ d.
        let row = rule k d within in
        (omega arith, ap (λ r. r.round) row, ap (λ r. r.table) row),
  );
}

howell_fair : (T : ℕ) (rows : List Row) → IsTried T → length rows ≡ rows_of T → FollowsHowell T rows →
    IsFair (howell_shape T) rows
howell_fair T rows tried count rule =
    let at = λ (k : ℕ) (within : k < length rows). row_at T k tried (omega arith) in
    let apart = λ (i j : ℕ) (less : i < j) (within : j < length rows). apart_at T i j tried less (omega arith) in
    record {
      pairs = each_row (HasPairsWithin (howell_shape T)) T rows rule (λ k within. ((at k within).ns.1, (at k within).ew.1));
      opponents = each_row HasTwoPairs T rows rule (λ k within same. absurd ((at k within).two same));
      sets = each_row (HasSetWithin (howell_shape T)) T rows rule (λ k within. (at k within).set);
      one_table = each_two (λ a b. ¬ SeatPairTwice a b) T rows rule (λ i j less within. (apart i j less within).round);
      new_sets = each_two (λ a b. ¬ PlaySetAgain a b) T rows rule (λ i j less within. (apart i j less within).set);
    }

pub howell_is_movement : (T : ℕ) (rows : List Row) → 2 ≤ T → T ≤ 6 → length rows ≡ rows_of T →
    FollowsHowell T rows → IsMovement (howell_shape T) rows
howell_is_movement T rows least most count rule = record {
  complete = howell_complete T rows count rule;
  fair = howell_fair T rows (tried T least most) count rule;
}

-- a number from 1 on is one more than another
one_less : (n most : ℕ) → IsBetween 1 most n → (n - 1 < most) × (n - 1 + 1 ≡ n)
one_less n most within = omega (arith, within.0, within.1)

meet_tells : (one other : ℕ) (row : Row) → do_meet one other row ≡ true → Meet one other row
meet_tells one other row h = grind (arith, nat_tests)

play_tells : (T pair set : ℕ) (row : Row) → IsWithin T row → does_play pair set row ≡ true → PlaysSet pair set row
play_tells T pair set row within h =
    let ns = within.ns.0 in let ew = within.ew.0 in
    ((omega arith, omega arith), grind (arith, nat_tests), grind (arith, nat_tests))

-- different numbers are not equal by the test
other_one : (n m : ℕ) (rest : Bool) → n ≢ m → (n == m || rest) ≡ true → rest ≡ true
other_one n m rest other h = grind (arith, nat_tests)

howell_meets : (T : ℕ) (rows : List Row) → IsTried T → length rows ≡ rows_of T → FollowsHowell T rows →
    (one other : ℕ) → IsBetween 1 (2 * T) one → IsBetween 1 (2 * T) other → one ≢ other → Any (Meet one other) rows
howell_meets T rows tried count rule one other in_one in_other apart =
    let n = one_less one (2 * T) in_one in
    let m = one_less other (2 * T) in_other in
    let row_of_one = every_tells (2 * T) _ tried.meet (one - 1) n.0 in
    let either = every_tells (2 * T) _ row_of_one (other - 1) m.0 in
    let there = other_one (one - 1) (other - 1) _ (omega arith) either in
    let found = some_tells (rows_of T) _ there in
    let at : do_meet (one - 1 + 1) (other - 1 + 1) (howell_row_at T found.0) ≡ true = found.2 in
    let Q : ℕ → Type 0 = λ x. do_meet x (other - 1 + 1) (howell_row_at T found.0) ≡ true in
    let R : ℕ → Type 0 = λ x. do_meet one x (howell_row_at T found.0) ≡ true in
    let within : found.0 < length rows = omega (arith, found.1) in
    one_row (Meet one other) T rows rule found.0 within
    (meet_tells one other (howell_row_at T found.0) (subst R m.1 (subst Q n.1 at)))

howell_plays : (T : ℕ) (rows : List Row) → IsTried T → length rows ≡ rows_of T → FollowsHowell T rows →
    (pair set : ℕ) → IsBetween 1 (2 * T) pair → IsBetween 1 (2 * T - 1) set → Any (PlaysSet pair set) rows
howell_plays T rows tried count rule pair set in_pair in_set =
    let n = one_less pair (2 * T) in_pair in
    let m = one_less set (2 * T - 1) in_set in
    let of_pair = every_tells (2 * T) _ tried.play (pair - 1) n.0 in
    let there = every_tells (2 * T - 1) _ of_pair (set - 1) m.0 in
    let found = some_tells (rows_of T) _ there in
    let at : does_play (pair - 1 + 1) (set - 1 + 1) (howell_row_at T found.0) ≡ true = found.2 in
    let Q : ℕ → Type 0 = λ x. does_play x (set - 1 + 1) (howell_row_at T found.0) ≡ true in
    let R : ℕ → Type 0 = λ x. does_play pair x (howell_row_at T found.0) ≡ true in
    let within : found.0 < length rows = omega (arith, found.1) in
    one_row (PlaysSet pair set) T rows rule found.0 within
    (play_tells T pair set (howell_row_at T found.0) (row_at T found.0 tried found.1) (subst R m.1 (subst Q n.1 at)))

-- from four tables on, sets were tried
more_than_three : (T : ℕ) (rest : Bool) → 4 ≤ T → (nat_le T 3 || rest) ≡ true → rest ≡ true
more_than_three T rest least h = grind (arith, nat_tests)

own_set_tells : (a b : Row) → not (a.round == b.round && a.set == b.set) ≡ true → ¬ ShareASet a b
own_set_tells a b h (round, set) = grind (arith, nat_tests)

howell_own_sets : (T : ℕ) (rows : List Row) → IsTried T → length rows ≡ rows_of T → FollowsHowell T rows →
    4 ≤ T → AllPairs (λ a b. ¬ ShareASet a b) rows
howell_own_sets T rows tried count rule least =
    let own : have_own_sets T ≡ true = more_than_three T (have_own_sets T) least tried.own_sets in
    each_two (λ a b. ¬ ShareASet a b) T rows rule (λ i j less within.
    own_set_tells (howell_row_at T i) (howell_row_at T j)
    (every_tells j _ (every_tells (rows_of T) _ own j (omega arith)) i less))

pub howell_is_howell : (T : ℕ) (rows : List Row) → 2 ≤ T → T ≤ 6 → length rows ≡ rows_of T →
    FollowsHowell T rows → IsHowell (howell_shape T) rows
howell_is_howell T rows least most count rule =
    let seen = tried T least most in
    record {
      opponents = howell_meets T rows seen count rule;
      once = each_two (λ a b. ¬ MeetAgain a b) T rows rule (λ i j less within.
          (apart_at T i j seen less (omega arith)).meeting);
      sets = howell_plays T rows seen count rule;
      set_a_table = howell_own_sets T rows seen count rule;
    }

-- its shape is within the limits
pub howell_within : (T : ℕ) → 2 ≤ T → T ≤ 6 → IsShape (howell_shape T)
howell_within T least most = record {
  tables = (least, omega arith);
  rounds = (omega arith, omega arith);
  sets = (omega arith, omega arith);
  pairs = (omega arith, omega arith);
  split = (omega arith, omega arith);
}
