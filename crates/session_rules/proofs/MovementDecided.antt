-- Whether rows are a movement.
use Rattle.std.proofs.Common.{◌≢◌, ◌+◌, ◌/◌, ◌%◌, ℕ, inl, inr, List, length, slice_index_or, refl, sym, subst}
use Rattle.std.proofs.lemmas.Option.{slice_get_within, slice_get-get_or, get_or_from_slice_get}
use Rattle.bridge_movement.specs.declared.row.Row.{Row}
use Rattle.bridge_movement.specs.declared.shape.Shape.{Shape}
use Rattle.bridge_movement.specs.Fair.{IsDue, IsComplete, HasPairsWithin, HasTwoPairs, HasSetWithin, IsFair, IsMovement}
use Rattle.bridge_movement.specs.Row.{IsLive, SitsIn, ShareAPair, SeatPairTwice, PlaySetAgain}
use Rattle.bridge_movement.specs.Shape.{IsBetween, IsShape, row_count}
use Rattle.session_rules.proofs.Decided.{Decided, decided_like, decided_both, decided_either, decided_implies, decided_not, decided_equal, decided_most, decided_less, decided_all, decided_pairs, decided_indexes}

-- whether a number is within limits
decided_between : (low high n : ℕ) → Decided (IsBetween low high n)
decided_between low high n = decided_both (decided_most low n) (decided_most n high)

-- whether the numbers of a shape are within their limits
pub decided_shape : (shape : Shape) → Decided (IsShape shape)
decided_shape shape =
    decided_like
    (decided_both (decided_between 2 12 shape.tables) (decided_both (decided_between 1 12 shape.rounds)
    (decided_both (decided_between 1 12 shape.sets) (decided_both (decided_between 2 24 shape.pairs) (decided_between 1 shape.pairs shape.split)))))
    (λ all. record { tables = all.0; rounds = all.1.0; sets = all.1.1.0; pairs = all.1.1.1.0; split = all.1.1.1.1 })
    (λ is. (is.tables, (is.rounds, (is.sets, (is.pairs, is.split)))))

-- whether a row is the one due at an index
decided_due : (shape : Shape) (index : ℕ) (row : Row) → Decided (IsDue shape index row)
decided_due shape index row =
    decided_like
    (decided_both (decided_less index (row_count shape))
    (decided_both (decided_equal row.round (index / shape.tables + 1)) (decided_equal row.table (index % shape.tables + 1))))
    (λ all. (all.0, all.1.0, all.1.1)) (λ due. (due.0, (due.1, due.2)))

-- whether rows are complete and in order
decided_complete : (shape : Shape) (rows : List Row) → Decided (IsComplete shape rows)
decided_complete shape rows =
    decided_like
    (decided_both (decided_equal (length rows) (row_count shape)) (decided_indexes (IsDue shape) (decided_due shape) rows))
    (λ both. record {
      count = both.0;
      order = λ index within. (within, λ d. both.1 index (slice_index_or rows index d) (slice_get-get_or rows index d within));
    })
    (λ is. (
      is.count,
      λ index row there.
          subst (IsDue shape index) (get_or_from_slice_get rows index row row there) ((is.order index (slice_get_within rows index row there)).1 row),
    ))

-- whether both sides of a row have a pair
decided_live : (row : Row) → Decided (IsLive row)
decided_live row = decided_both (decided_not (decided_equal row.ns 0)) (decided_not (decided_equal row.ew 0))

-- whether a pair stands in a row
decided_sits : (row : Row) (pair : ℕ) → Decided (SitsIn row pair)
decided_sits row pair = decided_either (decided_equal row.ns pair) (decided_equal row.ew pair)

-- whether some pair stands in both rows: it is one of the first row's two
decided_shared : (a b : Row) → Decided (ShareAPair a b)
decided_shared a b =
    decided_like
    (decided_either (decided_both (decided_not (decided_equal a.ns 0)) (decided_sits b a.ns))
    (decided_both (decided_not (decided_equal a.ew 0)) (decided_sits b a.ew)))
    (λ either. elim either [ inl ns ↦ (a.ns, ns.0, inl refl, ns.1) | inr ew ↦ (a.ew, ew.0, inr refl, ew.1) ])
    (λ shared. elim shared.2 [
      | inl ns ↦ inl (subst (λ pair. (pair ≢ 0) × SitsIn b pair) (sym ns) (shared.1, shared.3))
      | inr ew ↦ inr (subst (λ pair. (pair ≢ 0) × SitsIn b pair) (sym ew) (shared.1, shared.3))
    ])

-- whether some pair stands in both rows, and they are of one round
decided_twice : (a b : Row) → Decided (SeatPairTwice a b)
decided_twice a b = decided_both (decided_equal a.round b.round) (decided_shared a b)

-- whether some pair plays one set in both rows
decided_again : (a b : Row) → Decided (PlaySetAgain a b)
decided_again a b =
    decided_like (decided_both (decided_live a) (decided_both (decided_live b) (decided_both (decided_equal a.set b.set) (decided_shared a b))))
    (λ all. (all.0, all.1.0, all.1.1.0, all.1.1.1)) (λ again. (again.0, (again.1, (again.2, again.3))))

-- whether rows are fair
decided_fair : (shape : Shape) (rows : List Row) → Decided (IsFair shape rows)
decided_fair shape rows =
    decided_like
    (decided_both (decided_all (HasPairsWithin shape) (λ row. decided_both (decided_most row.ns shape.pairs) (decided_most row.ew shape.pairs)) rows)
    (decided_both (decided_all HasTwoPairs (λ row. decided_implies (decided_equal row.ns row.ew) (decided_equal row.ns 0)) rows)
    (decided_both (decided_all (HasSetWithin shape) (λ row. decided_both (decided_most 1 row.set) (decided_most row.set shape.sets)) rows)
    (decided_both (decided_pairs (λ a b. ¬ SeatPairTwice a b) (λ a b. decided_not (decided_twice a b)) rows)
    (decided_pairs (λ a b. ¬ PlaySetAgain a b) (λ a b. decided_not (decided_again a b)) rows)))))
    (λ all. record { pairs = all.0; opponents = all.1.0; sets = all.1.1.0; one_table = all.1.1.1.0; new_sets = all.1.1.1.1 })
    (λ fair. (fair.pairs, (fair.opponents, (fair.sets, (fair.one_table, fair.new_sets)))))

-- whether rows are a movement of the shape
pub decided_movement : (shape : Shape) (rows : List Row) → Decided (IsMovement shape rows)
decided_movement shape rows =
    decided_like (decided_both (decided_complete shape rows) (decided_fair shape rows))
    (λ both. record { complete = both.0; fair = both.1 }) (λ is. (is.complete, is.fair))
