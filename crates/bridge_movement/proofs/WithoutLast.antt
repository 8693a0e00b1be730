-- A movement in which the last pair is lacking is fair.
use Rattle.std.proofs.Common.{ℕ, ◌≡◌, ◌≢◌, ◌-◌, ◌<◌, ◌≤◌, inl, inr, List, length, slice_index_or, map, subst, sym, ap, ◌∙◌, arith}
use Rattle.std.specs.Prelude.{All, AllPairs}
use Rattle.std.proofs.lemmas.Bool.Decides.{nat_tests}
use Rattle.std.proofs.lemmas.List.{get_or-map, length-map}
use Rattle.bridge_movement.specs.declared.row.Row.{Row}
use Rattle.bridge_movement.specs.declared.shape.Shape.{Shape}
use Rattle.bridge_movement.specs.Fair.{IsComplete, IsFair, IsMovement, HasPairsWithin, HasTwoPairs, HasSetWithin}
use Rattle.bridge_movement.specs.HalfTable.{unless_lacking, row_without, shape_without_last, SitOutAgain, SitsOutOnce}
use Rattle.bridge_movement.specs.Row.{IsLive, SitsIn, SeatPairTwice, PlaySetAgain, MeetAgain}
use Rattle.bridge_movement.specs.Shape.{IsShape}

-- a pair other than nobody is still who it was
was : (lacking pair there : ℕ) → there ≢ 0 → unless_lacking lacking pair ≡ there → pair ≡ there
was lacking pair there some is = grind (arith, nat_tests)

sat_in : (lacking : ℕ) (row : Row) (pair : ℕ) → pair ≢ 0 → SitsIn (row_without lacking row) pair → SitsIn row pair
sat_in lacking row pair some (inl ns) = inl (was lacking row.ns pair some ns)
sat_in lacking row pair some (inr ew) = inr (was lacking row.ew pair some ew)

still_here : (lacking pair : ℕ) → unless_lacking lacking pair ≢ 0 → pair ≢ 0
still_here lacking pair here = grind (arith, nat_tests)

was_live : (lacking : ℕ) (row : Row) → IsLive (row_without lacking row) → IsLive row
was_live lacking row live = (still_here lacking row.ns live.0, still_here lacking row.ew live.1)

within : (pair most : ℕ) → pair ≤ most → unless_lacking most pair ≤ most - 1
within pair most below = grind (arith, nat_tests)

two_pairs : (lacking : ℕ) (row : Row) → HasTwoPairs row → HasTwoPairs (row_without lacking row)
two_pairs lacking row two same = grind (arith, nat_tests)

-- what holds of each row once it has changed
each_row : (P : Row → Type 0) (f : Row → Row) (rows : List Row) →
    ((k : ℕ) (d : Row) → k < length rows → P (f (slice_index_or rows k d))) → All P (map f rows)
each_row P f rows holds k d below =
    let inside : k < length rows = omega (arith, below, length-map rows f) in
    subst P (sym (get_or-map f rows k d d inside)) (holds k d inside)

-- what holds of each two rows once they have changed
each_two : (R : Row → Row → Type 0) (f : Row → Row) (rows : List Row) →
    ((i j : ℕ) (d : Row) → i < j → j < length rows → R (f (slice_index_or rows i d)) (f (slice_index_or rows j d))) →
    AllPairs R (map f rows)
each_two R f rows holds i j d less below =
    let inside : j < length rows = omega (arith, below, length-map rows f) in
    let first = get_or-map f rows i d d (omega arith) in
    let second = get_or-map f rows j d d inside in
    let P : Row → Type 0 = λ a. R a (slice_index_or (map f rows) j d) in
    let Q : Row → Type 0 = λ b. R (f (slice_index_or rows i d)) b in
    subst P (sym first) (subst Q (sym second) (holds i j d less inside))

without_complete : (shape : Shape) (rows : List Row) → IsComplete shape rows →
    IsComplete (shape_without_last shape) (map (row_without shape.pairs) rows)
without_complete shape rows complete =
    let f : Row → Row = row_without shape.pairs in
    record {
      count = length-map rows f ∙ complete.count;
      order = λ k below.
          let inside : k < length rows = omega (arith, below, length-map rows f) in (
            below,
            λ d.
                let was_due = (complete.order k inside).1 d in
                let same = get_or-map f rows k d d inside in
                (was_due.0, ap (λ r. r.round) same ∙ was_due.1, ap (λ r. r.table) same ∙ was_due.2),
          );
    }

without_fair : (shape : Shape) (rows : List Row) → IsFair shape rows →
    IsFair (shape_without_last shape) (map (row_without shape.pairs) rows)
without_fair shape rows fair =
    let new : Shape = shape_without_last shape in
    let f : Row → Row = row_without shape.pairs in
    record {
      pairs = each_row (HasPairsWithin new) f rows (λ k d inside.
          let had = fair.pairs k d inside in
          (within _ shape.pairs had.0, within _ shape.pairs had.1));
      opponents = each_row HasTwoPairs f rows (λ k d inside. two_pairs shape.pairs (slice_index_or rows k d) (fair.opponents k d inside));
      sets = each_row (HasSetWithin new) f rows (λ k d inside. fair.sets k d inside);
      one_table = each_two (λ a b. ¬ SeatPairTwice a b) f rows (λ i j d less inside (round, (pair, some, in_a, in_b)).
          fair.one_table i j d less inside
          (round, (pair, some, sat_in shape.pairs (slice_index_or rows i d) pair some in_a, sat_in shape.pairs (slice_index_or rows j d) pair some in_b)));
      new_sets = each_two (λ a b. ¬ PlaySetAgain a b) f rows (λ i j d less inside (live, live', set, (pair, some, in_a, in_b)).
          fair.new_sets i j d less inside (
            was_live shape.pairs (slice_index_or rows i d) live,
            was_live shape.pairs (slice_index_or rows j d) live',
            set,
            (pair, some, sat_in shape.pairs (slice_index_or rows i d) pair some in_a, sat_in shape.pairs (slice_index_or rows j d) pair some in_b),
          ));
    }

pub without_is_movement : (shape : Shape) (rows : List Row) → IsMovement shape rows →
    IsMovement (shape_without_last shape) (map (row_without shape.pairs) rows)
without_is_movement shape rows movement = record {
  complete = without_complete shape rows movement.complete;
  fair = without_fair shape rows movement.fair;
}

-- its shape is within the limits
pub without_within : (shape : Shape) → 3 ≤ shape.pairs → IsShape shape → IsShape (shape_without_last shape)
without_within shape least limits = record {
  tables = limits.tables;
  rounds = limits.rounds;
  sets = limits.sets;
  pairs = (omega arith, let most = limits.pairs.1 in omega arith);
  split = (let first = limits.split.0 in omega arith, omega arith);
}

-- who sits out twice met the lacking pair twice
met_twice : (lacking : ℕ) (a b : Row) → IsLive a → IsLive b → ¬ MeetAgain a b →
    ¬ SitOutAgain (row_without lacking a) (row_without lacking b)
met_twice lacking a b live live' once (out, out', (pair, some, in_a, in_b)) = grind (arith, nat_tests)

pub out_once : (lacking : ℕ) (rows : List Row) → All IsLive rows → AllPairs (λ a b. ¬ MeetAgain a b) rows →
    SitsOutOnce (map (row_without lacking) rows)
out_once lacking rows live once =
    each_two (λ a b. ¬ SitOutAgain a b) (row_without lacking) rows (λ i j d less inside.
    met_twice lacking (slice_index_or rows i d) (slice_index_or rows j d) (live i d (omega arith)) (live j d inside) (once i j d less inside))
