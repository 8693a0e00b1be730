use Rattle.std.proofs.Common.{◌≡◌, List, subst, ap, ◌∙◌}
use Rattle.std.specs.Prelude.{IfSome}
use Rattle.bridge_movement.specs.declared.row.Row.{Row}
use Rattle.bridge_movement.specs.Fair.{IsMovement}
use Rattle.bridge_movement.specs.MovementValue.{MovementValue}
use Rattle.bridge_movement.specs.Seating.{IsFirstSeat, PlaysAt}
use Rattle.bridge_movement.specs.Shape.{IsShape}
use Rattle.bridge_movement.proofs.Seats.{first_is_place, place_only, place_within}
use Rattle.bridge_movement.proofs.movement.Movement.place.Goals as goal

-- the rows that are read are the movement's
same_rows : (c : goal.After-place_in) → c.deref.result.now ≡ c.args.self.now.rows
same_rows c = c.deref.ensures.0 ∙ ap (λ m. m.rows) c.self.view_is

pub returns-clause-value : goal.returns-clause-value
returns-clause-value c =
    let P : List Row → Type 0 = λ rows. IsFirstSeat rows c.args.round c.args.pair c.place_in.result in
    first_is_place c.args.self.now.rows c.args.round c.args.pair c.place_in.result
    (subst P (same_rows c) c.place_in.ensures.first)

-- the pair plays there by the movement's rows
plays : (c : goal.After-place_in) → IfSome c.place_in.result (PlaysAt c.args.self.now.rows c.args.round c.args.pair)
plays c =
    let P : List Row → Type 0 = λ rows. IfSome c.place_in.result (PlaysAt rows c.args.round c.args.pair) in
    subst P (same_rows c) c.place_in.ensures.plays

-- what the movement keeps
kept : (c : goal.After-place_in) →
    IsShape c.args.self.now.shape × IsMovement c.args.self.now.shape c.args.self.now.rows
kept c =
    let P : MovementValue → Type 0 = λ m. IsShape m.shape × IsMovement m.shape m.rows in
    subst P c.self.view_is c.self.invariant

pub returns-clause-only : goal.returns-clause-only
returns-clause-only c =
    place_only c.args.self.now.shape c.args.self.now.rows c.args.round c.args.pair c.place_in.result (kept c).1 (plays c)

pub returns-clause-within : goal.returns-clause-within
returns-clause-within c =
    place_within c.args.self.now.shape c.args.self.now.rows c.args.round c.args.pair c.place_in.result (kept c).0
    (kept c).1 (plays c)
