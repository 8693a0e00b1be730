use Rattle.std.proofs.Common.{Err, sym, subst, arith}
use Rattle.std.specs.Str.Lines.{lines}
use Rattle.evening_draft.specs.Names.{ReadsNames}
use Rattle.evening_draft.proofs.NamesRead.{begun, line_taken, line_failed, ended_at, too_many, seen_fault}
use Rattle.evening_draft.proofs.names.read_names.Goals as goal

pub loop-number-init : goal.loop-number-init
loop-number-init c = begun c.new-pairs.result.items (lines c.args.text.now) c.new-pairs.ensures

pub returns-in_default : goal.returns-in_default
returns-in_default c =
    c.loop-number.invariant _
    (ended_at c.loop-number.number c.loop-number.pairs.items (lines c.loop-number.rest.now) _ c.loop-number-test.true
    c.in_default.ensures c.enough.ensures)

pub returns-in_err-push_line : goal.returns-in_err-push_line
returns-in_err-push_line c =
    subst (ReadsNames (lines c.args.text.now)) (seen_fault c.from_residual.result _ c.from_residual.ensures.1)
    (c.loop-number.invariant _
    (line_failed c.loop-number.number c.loop-number.pairs.items c.push_line.new.pairs.items c.in-Some.line.now
    (lines c.in-Some.after.now) (lines c.loop-number.rest.now) c.in_err-push_line.field-0.0 c.loop-number-test.true
    c.in-Some.ensures c.in_err-push_line.ensures))

pub loop-number-preserved : goal.loop-number-preserved
loop-number-preserved c result rest =
    c.loop-number.invariant result
    (line_taken c.loop-number.number c.loop-number.pairs.items c.push_line.new.pairs.items c.in-Some.line.now
    (lines c.in-Some.after.now) (lines c.loop-number.rest.now) result c.loop-number-test.true c.in-Some.ensures
    c.in_ok-push_line.ensures rest)

pub returns : goal.returns
returns c =
    subst (λ fault. ReadsNames (lines c.args.text.now) (Err fault)) (sym c.fault_at.ensures)
    (c.loop-number.invariant _ (too_many c.loop-number.number c.loop-number.pairs.items (lines c.loop-number.rest.now)
    (omega (arith, c.loop-number-test.false, c.loop-number.auto.number-end))))
