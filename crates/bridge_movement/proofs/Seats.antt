-- The first row that has a pair gives the pair's place.
use Rattle.std.proofs.Common.{ℕ, zero, suc, ◌≡◌, ◌<◌, List, [], ◌∷◌, Option, None, Some, ◌+◌, ◌%◌, refl, sym, ap, subst, ◌≢◌, inl, inr, ◌∙◌, arith}
use Rattle.std.specs.Prelude.{IfSome, slice_index_or}
use Rattle.std.specs.Option.{option_or}
use Rattle.std.proofs.lemmas.Bool.{cases_order}
use Rattle.std.proofs.lemmas.List.{get_or_default}
use Rattle.std.proofs.lemmas.Nat.{mod_below}
use Rattle.bridge_cards.specs.declared.seat.Side.{Side}
use Rattle.bridge_cards.specs.declared.seat.Side.TheVariants.{NorthSouth, EastWest}
use Rattle.bridge_movement.specs.declared.place.Place.{Place}
use Rattle.bridge_movement.specs.declared.row.Row.{Row}
use Rattle.bridge_movement.specs.declared.shape.Shape.{Shape}
use Rattle.bridge_movement.specs.Fair.{IsFair, IsMovement, HasTwoPairs}
use Rattle.bridge_movement.specs.Seating.{place_of, IsFirstSeat, IsPlaceWithin, IsSeat, PlaysAt, PlaysOnlyAt, pair_on}
use Rattle.bridge_movement.specs.Row.{IsLive, SitsIn, SeatPairTwice}
use Rattle.bridge_movement.proofs.Faults.{nobody}
use Rattle.bridge_movement.specs.Shape.{IsShape}

pub first_is_place : (rows : List Row) (round pair : ℕ) (found : Option Place) → IsFirstSeat rows round pair found →
    found ≡ place_of rows round pair
first_is_place [] round pair None none = refl
first_is_place [] round pair (Some place) (k, within, here, before) = absurd (omega arith)
first_is_place (row ∷ rows) round pair None none =
    let rest = first_is_place rows round pair None (λ k d h. none (suc k) d (omega arith)) in
    rest ∙ sym (ap (λ seat. option_or seat (place_of rows round pair)) (none zero row (omega arith)))
first_is_place (row ∷ rows) round pair (Some place) (zero, within, here, before) =
    sym (ap (λ seat. option_or seat (place_of rows round pair)) (here row))
first_is_place (row ∷ rows) round pair (Some place) (suc k, within, here, before) =
    let rest = first_is_place rows round pair (Some place)
    (k, omega arith, λ d. here d, λ i d low high. before (suc i) d (omega arith) (omega arith)) in
    rest ∙ sym (ap (λ seat. option_or seat (place_of rows round pair)) (before zero row (omega arith) (omega arith)))

-- a pair's place is within the shape
pub place_within : (shape : Shape) (rows : List Row) (round pair : ℕ) (found : Option Place) → IsShape shape →
    IsMovement shape rows → IfSome found (PlaysAt rows round pair) → IfSome found (IsPlaceWithin shape)
place_within shape rows round pair None limits movement plays = plays
place_within shape rows round pair (Some place) limits movement (k, row, within, is, seat) =
    let due = (movement.complete.order k within).1 row in
    let set_is = movement.fair.sets k row within in
    let table : (slice_index_or rows k row).table ≡ place.table = ap (λ r. r.table) is ∙ seat.3 in
    let set : (slice_index_or rows k row).set ≡ place.set = ap (λ r. r.set) is ∙ seat.4 in
    let some : 0 < shape.tables = omega (arith, limits.tables) in
    let column : k % shape.tables < shape.tables = mod_below k shape.tables some in
    let at : (slice_index_or rows k row).table ≡ k % shape.tables + 1 = due.2 in
    ((omega arith, omega arith), (omega arith, omega arith))

-- two places of the same parts are one
same_place : (p q : Place) → p.table ≡ q.table → p.side ≡ q.side → p.set ≡ q.set → p ≡ q
same_place p q table side set =
    let made : ℕ → Side → ℕ → Place = λ t s n. record { table = t; side = s; set = n } in
    ap (λ t. made t p.side p.set) table ∙ ap (λ s. made q.table s p.set) side ∙ ap (λ n. made q.table q.side n) set

-- a row has its pairs on one side each
same_side : (row : Row) (a b : Side) (pair : ℕ) → HasTwoPairs row → row.ns ≢ 0 → pair_on a row ≡ pair →
    pair_on b row ≡ pair → a ≡ b
same_side row NorthSouth NorthSouth pair two live p q = refl
same_side row NorthSouth EastWest pair two live p q = absurd (live (two (p ∙ sym q)))
same_side row EastWest NorthSouth pair two live p q = absurd (live (two (q ∙ sym p)))
same_side row EastWest EastWest pair two live p q = refl

-- a pair on a side stands in the row
sits_in : (row : Row) (side : Side) (pair : ℕ) → pair_on side row ≡ pair → SitsIn row pair
sits_in row NorthSouth pair p = inl p
sits_in row EastWest pair p = inr p

-- in a live row nobody sits on no side
some_pair : (row : Row) (side : Side) (pair : ℕ) → IsLive row → pair_on side row ≡ pair → pair ≢ 0
some_pair row NorthSouth pair live p zero_is = live.0 (p ∙ zero_is)
some_pair row EastWest pair live p zero_is = live.1 (p ∙ zero_is)

-- two seats of a pair in one row are one
same_seat : (row : Row) (round pair : ℕ) (p q : Place) → HasTwoPairs row → IsSeat round pair p row →
    IsSeat round pair q row → p ≡ q
same_seat row round pair p q two a b =
    same_place p q (sym a.3 ∙ b.3) (same_side row p.side q.side pair two a.1.0 a.2 b.2) (sym a.4 ∙ b.4)

-- two rows of a round do not both have a pair
no_two_seats : (a b : Row) (round pair : ℕ) (p q : Place) → IsSeat round pair p a → IsSeat round pair q b →
    SeatPairTwice a b
no_two_seats a b round pair p q here there = (
  here.0 ∙ sym there.0,
  (
    pair,
    some_pair a p.side pair here.1 here.2,
    sits_in a p.side pair here.2,
    sits_in b q.side pair there.2,
  ),
)

-- fair rows have a pair at one place in a round
one_place : (shape : Shape) (rows : List Row) (round pair : ℕ) (place other : Place) → IsFair shape rows →
    PlaysAt rows round pair place → PlaysAt rows round pair other → other ≡ place
one_place shape rows round pair place other fair (i, a, in_i, is_a, seat_a) (j, b, in_j, is_b, seat_b) =
    let P : Row → Type 0 = λ row. IsSeat round pair place row in
    let Q : Row → Type 0 = λ row. IsSeat round pair other row in
    let here : P (slice_index_or rows i nobody) = subst P (sym is_a ∙ get_or_default rows i a nobody in_i) seat_a in
    let there : Q (slice_index_or rows j nobody) = subst Q (sym is_b ∙ get_or_default rows j b nobody in_j) seat_b in
    elim (cases_order i j) [
      | inl same ↦
          let there_too : Q (slice_index_or rows i nobody) =
          subst (λ k. Q (slice_index_or rows k nobody)) (sym same) there in
          same_seat (slice_index_or rows i nobody) round pair other place (fair.opponents i nobody in_i) there_too here
      | inr (inl less) ↦
          absurd (fair.one_table i j nobody less in_j (no_two_seats _ _ round pair place other here there))
      | inr (inr more) ↦
          absurd (fair.one_table j i nobody more in_i (no_two_seats _ _ round pair other place there here))
    ]

pub place_only : (shape : Shape) (rows : List Row) (round pair : ℕ) (found : Option Place) → IsMovement shape rows →
    IfSome found (PlaysAt rows round pair) → IfSome found (PlaysOnlyAt rows round pair)
place_only shape rows round pair None movement plays = plays
place_only shape rows round pair (Some place) movement plays =
    λ other again. one_place shape rows round pair place other movement.fair plays again
