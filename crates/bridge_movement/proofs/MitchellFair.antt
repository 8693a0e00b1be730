-- The Mitchell movement is fair, and no two pairs meet twice in it.
use Rattle.std.proofs.Common.{ℕ, ◌≡◌, ◌+◌, ◌-◌, ◌*◌, ◌/◌, ◌%◌, ◌<◌, ◌≤◌, ◌⊎◌, inl, inr, List, length, slice_index_or, subst, sym, ap, ◌∙◌, arith}
use Rattle.std.specs.Prelude.{All, AllPairs}
use Rattle.std.proofs.lemmas.Bool.{cases_lt}
use Rattle.std.proofs.lemmas.Bool.Decides.{nat_tests}
use Rattle.std.proofs.lemmas.Nat.{mod-mul-add, mod_below, div_below, div-add-mod'}
use Rattle.bridge_movement.specs.declared.row.Row.{Row}
use Rattle.bridge_movement.specs.Fair.{IsComplete, IsFair, IsMovement, HasPairsWithin, HasTwoPairs, HasSetWithin}
use Rattle.bridge_movement.specs.Mitchell.{mitchell_rounds, mitchell_shape, tables_moved, mitchell_row, mitchell_row_at, FollowsMitchell}
use Rattle.bridge_movement.specs.Row.{ShareAPair, SeatPairTwice, PlaySetAgain, MeetAgain}

-- how far the pairs of East and West have moved on by round r, where there are 2 h tables, or 2 h + 1
abbrev Moved : ℕ → ℕ → ℕ → ℕ → Type 0
Moved T h r m =
    ((T ≡ h + h + 1) × (m ≡ r) × (r < T))
    ⊎ ((T ≡ h + h) × (((r < h) × (m ≡ r)) ⊎ ((h ≤ r) × (m ≡ r + 1) × (m < T))))

-- in round r table t has set s, and pair e of East and West, which has moved on m tables
record Game (T h r t s m e : ℕ) : Type 0 where
  pub table : t < T
  pub set : (s < T) × ((s ≡ t + r) ⊎ (s + T ≡ t + r))
  pub pair : (e < T) × ((e + m ≡ t + T) ⊎ (e + m ≡ t))
  pub moved : Moved T h r m

-- a pair is in one game of a round
once_a_round : (T h r t s m e r' t' s' m' e' : ℕ) → Game T h r t s m e → Game T h r' t' s' m' e' → r ≡ r' →
    (t ≡ t') ⊎ (e ≡ e') → (r ≡ r') × (t ≡ t')
once_a_round T h r t s m e r' t' s' m' e' a b same_round same_pair = omega arith

-- a pair has a set in one game
once_a_set : (T h r t s m e r' t' s' m' e' : ℕ) → Game T h r t s m e → Game T h r' t' s' m' e' → s ≡ s' →
    (t ≡ t') ⊎ (e ≡ e') → (r ≡ r') × (t ≡ t')
once_a_set T h r t s m e r' t' s' m' e' a b same_set same_pair = omega arith

-- two pairs have one game
once_together : (T h r t s m e r' t' s' m' e' : ℕ) → Game T h r t s m e → Game T h r' t' s' m' e' → t ≡ t' →
    e ≡ e' → (r ≡ r') × (t ≡ t')
once_together T h r t s m e r' t' s' m' e' a b same_ns same_ew = omega arith

-- the remainder of what is below two lengths
wrapped : (x n : ℕ) → x < n + n → (x % n ≡ x) ⊎ (x % n + n ≡ x)
wrapped x n below =
    elim (cases_lt x n) [
      | inl less ↦ inl (let e : (0 * n + x) % n ≡ x = mod-mul-add 0 n x less in
          let same : 0 * n + x ≡ x = omega arith in ap (λ k. k % n) (sym same) ∙ e)
      | inr least ↦ inr (
          let less : x - n < n = omega arith in
          let e : (1 * n + (x - n)) % n ≡ x - n = mod-mul-add 1 n (x - n) less in
          let same : 1 * n + (x - n) ≡ x = omega arith in
          let rest : x % n ≡ x - n = ap (λ k. k % n) (sym same) ∙ e in
          omega arith)
    ]

moved_on : (T r : ℕ) → 2 ≤ T → r < mitchell_rounds T → Moved T (T / 2) r (tables_moved T r)
moved_on T r least round = grind (arith, nat_tests)

-- the rule's set and pair of East and West
abbrev set_of : ℕ → ℕ → ℕ → ℕ
set_of T r t = (t + r) % T

abbrev pair_of : ℕ → ℕ → ℕ → ℕ
pair_of T r t = (t + T - tables_moved T r) % T

-- each row of the rule is such a game
game_of : (T r t : ℕ) → 2 ≤ T → r < mitchell_rounds T → t < T →
    Game T (T / 2) r t (set_of T r t) (tables_moved T r) (pair_of T r t)
game_of T r t least round table =
    let moved : Moved T (T / 2) r (tables_moved T r) = moved_on T r least round in
    let m : ℕ = tables_moved T r in
    let far : r < T = omega (arith, moved) in
    let most : m ≤ T = omega (arith, moved) in
    record {
      table = table;
      set = (mod_below (t + r) T (omega arith), wrapped (t + r) T (omega arith));
      pair = (
        mod_below (t + T - m) T (omega arith),
        elim (wrapped (t + T - m) T (omega arith)) [ inl e ↦ inl (omega arith) | inr e ↦ inr (omega arith) ],
      );
      moved = moved;
    }

-- two rows of the rule that share a pair share it on one side
shared_side : (T r t r' t' : ℕ) → t < T → t' < T → ShareAPair (mitchell_row T r t) (mitchell_row T r' t') →
    (t ≡ t') ⊎ (pair_of T r t ≡ pair_of T r' t')
shared_side T r t r' t' here there (pair, some, a, b) =
    elim a [
      | inl p ↦ elim b [ inl q ↦ inl (omega arith) | inr q ↦ absurd (omega arith) ]
      | inr p ↦ elim b [ inl q ↦ absurd (omega arith) | inr q ↦ inr (omega arith) ]
    ]

-- two indexes are in other rounds or at other tables
apart : (T i j : ℕ) → i < j → (i / T ≡ j / T) × (i % T ≡ j % T) → ⊥
apart T i j less (rounds, tables) =
    let i_is : i / T * T + i % T ≡ i = div-add-mod' i T in
    let j_is : j / T * T + j % T ≡ j = div-add-mod' j T in
    let same : i / T * T ≡ j / T * T = ap (λ k. k * T) rounds in
    omega arith

-- the game at an index
game_at : (T k : ℕ) → 2 ≤ T → k < mitchell_rounds T * T →
    Game T (T / 2) (k / T) (k % T) (set_of T (k / T) (k % T)) (tables_moved T (k / T)) (pair_of T (k / T) (k % T))
game_at T k least within =
    game_of T (k / T) (k % T) least (div_below k T (mitchell_rounds T) (omega arith) within)
    (mod_below k T (omega arith))

no_pair_twice : (T i j : ℕ) → 2 ≤ T → i < j → j < mitchell_rounds T * T →
    SeatPairTwice (mitchell_row_at T i) (mitchell_row_at T j) → ⊥
no_pair_twice T i j least less within (round, shared) =
    let a = game_at T i least (omega arith) in
    let b = game_at T j least within in
    apart T i j less
    (once_a_round T (T / 2) (i / T) (i % T) _ _ _ (j / T) (j % T) _ _ _ a b (omega arith)
    (shared_side T (i / T) (i % T) (j / T) (j % T) a.table b.table shared))

no_set_again : (T i j : ℕ) → 2 ≤ T → i < j → j < mitchell_rounds T * T →
    PlaySetAgain (mitchell_row_at T i) (mitchell_row_at T j) → ⊥
no_set_again T i j least less within (live, live', set, shared) =
    let a = game_at T i least (omega arith) in
    let b = game_at T j least within in
    apart T i j less
    (once_a_set T (T / 2) (i / T) (i % T) _ _ _ (j / T) (j % T) _ _ _ a b (omega arith)
    (shared_side T (i / T) (i % T) (j / T) (j % T) a.table b.table shared))

no_meeting_again : (T i j : ℕ) → 2 ≤ T → i < j → j < mitchell_rounds T * T →
    MeetAgain (mitchell_row_at T i) (mitchell_row_at T j) → ⊥
no_meeting_again T i j least less within (live, live', same) =
    let a = game_at T i least (omega arith) in
    let b = game_at T j least within in
    let below : i % T < T = a.table in
    let below' : j % T < T = b.table in
    elim same [
      | inl (ns, ew) ↦ apart T i j less
          (once_together T (T / 2) (i / T) (i % T) _ _ _ (j / T) (j % T) _ _ _ a b (omega arith) (omega arith))
      | inr (across, back) ↦ absurd (omega arith)
    ]

-- what holds of each row of the rule
each_row : (P : Row → Type 0) (T : ℕ) (rows : List Row) → FollowsMitchell T rows →
    ((k : ℕ) → k < length rows → P (mitchell_row_at T k)) → All P rows
each_row P T rows rule holds k d within = subst P (sym (rule k d within)) (holds k within)

-- what holds of each two rows of the rule
each_two : (R : Row → Row → Type 0) (T : ℕ) (rows : List Row) → FollowsMitchell T rows →
    ((i j : ℕ) → i < j → j < length rows → R (mitchell_row_at T i) (mitchell_row_at T j)) → AllPairs R rows
each_two R T rows rule holds i j d less within =
    let first = rule i d (omega arith) in
    let second = rule j d within in
    let P : Row → Type 0 = λ a. R a (slice_index_or rows j d) in
    let Q : Row → Type 0 = λ b. R (mitchell_row_at T i) b in
    subst P (sym first) (subst Q (sym second) (holds i j less within))

mitchell_complete : (T : ℕ) (rows : List Row) → 2 ≤ T → length rows ≡ mitchell_rounds T * T →
    FollowsMitchell T rows → IsComplete (mitchell_shape T) rows
mitchell_complete T rows least count rule = record {
  count = count;
  order = λ k within. (
    within,
    λ d.
        let row = rule k d within in
        (omega arith, ap (λ r. r.round) row, ap (λ r. r.table) row),
  );
}

mitchell_fair : (T : ℕ) (rows : List Row) → 2 ≤ T → length rows ≡ mitchell_rounds T * T → FollowsMitchell T rows →
    IsFair (mitchell_shape T) rows
mitchell_fair T rows least count rule =
    let game = λ (k : ℕ) (within : k < length rows). game_at T k least (omega arith) in
    record {
      pairs = each_row (HasPairsWithin (mitchell_shape T)) T rows rule (λ k within.
          let ns : k % T < T = (game k within).table in
          let ew = (game k within).pair.0 in
          (omega arith, omega arith));
      opponents = each_row HasTwoPairs T rows rule (λ k within same.
          let ns : k % T < T = (game k within).table in omega arith);
      sets = each_row (HasSetWithin (mitchell_shape T)) T rows rule (λ k within.
          let set = (game k within).set.0 in (omega arith, omega arith));
      one_table = each_two (λ a b. ¬ SeatPairTwice a b) T rows rule (λ i j less within. no_pair_twice T i j least less (omega arith));
      new_sets = each_two (λ a b. ¬ PlaySetAgain a b) T rows rule (λ i j less within. no_set_again T i j least less (omega arith));
    }

pub mitchell_is_movement : (T : ℕ) (rows : List Row) → 2 ≤ T → length rows ≡ mitchell_rounds T * T →
    FollowsMitchell T rows → IsMovement (mitchell_shape T) rows
mitchell_is_movement T rows least count rule = record {
  complete = mitchell_complete T rows least count rule;
  fair = mitchell_fair T rows least count rule;
}

pub mitchell_meets_once : (T : ℕ) (rows : List Row) → 2 ≤ T → length rows ≡ mitchell_rounds T * T →
    FollowsMitchell T rows → AllPairs (λ a b. ¬ MeetAgain a b) rows
mitchell_meets_once T rows least count rule =
    each_two (λ a b. ¬ MeetAgain a b) T rows rule (λ i j less within. no_meeting_again T i j least less (omega arith))
