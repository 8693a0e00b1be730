use Rattle.std.proofs.Common.{List, subst, sym, refl}
use Rattle.bridge_movement.specs.declared.row.Row.{Row}
use Rattle.bridge_movement.specs.Fair.{IsMovement}
use Rattle.bridge_movement.proofs.Faults.{fault_is_unfair, faultless_is_fair, refusal_of}
use Rattle.bridge_movement.proofs.movement.Movement.from_rows.Goals as goal

pub returns-in-Some-first_fault-clause-accepted : goal.returns-in-Some-first_fault-clause-accepted
returns-in-Some-first_fault-clause-accepted c =
    let fault = c.in-Some-first_fault.ensures in (
      λ e. absurd cc,
      λ movement. absurd (fault_is_unfair c.args.shape c.args.rows.now fault.0 c.in-Some-first_fault.refused fault.2 movement.fair),
    )

pub returns-in-Some-first_fault-clause-refused : goal.returns-in-Some-first_fault-clause-refused
returns-in-Some-first_fault-clause-refused c =
    let fault = c.in-Some-first_fault.ensures in
    refusal_of c.args.shape c.args.rows.now fault.0 _ fault.1 c.in_default.ensures.first fault.2

pub invariant_of-result : goal.invariant_of-result
invariant_of-result c =
    let fair = faultless_is_fair c.args.shape c.args.rows.now c.in_default-first_fault.ensures in
    let P : List Row → Type 0 = λ rows. IsMovement c.args.shape rows in (
      c.requires,
      subst P (sym c.inline_rows.ensures) (record { complete = c.in_default.ensures.first; fair = fair }),
    )

pub returns-clause-accepted : goal.returns-clause-accepted
returns-clause-accepted c =
    let fair = faultless_is_fair c.args.shape c.args.rows.now c.in_default-first_fault.ensures in
    (λ e. record { complete = c.in_default.ensures.first; fair = fair }, λ _. refl)
