use Rattle.std.proofs.Common.{inr, arith}
use Rattle.std.proofs.lemmas.Result.{err_from_is_err_and}
use Rattle.std.specs.Str.Lines.{lines}
use Rattle.makeable_deals.proofs.LinesRead.{begun, line_taken, ended_at, too_many, stopped}
use Rattle.makeable_deals.proofs.read.read_deals.Goals as goal

pub loop-number-init : goal.loop-number-init
loop-number-init c = begun _ _ _ c.no_heading-heading.ensures c.new-deals.ensures.items

pub loop-number-preserved : goal.loop-number-preserved
loop-number-preserved c result rest =
    c.loop-number.invariant result
    (line_taken c.loop-number.number c.loop-number.heading c.take_line.new.heading c.loop-number.deals.items c.take_line.new.deals.items
    c.in-Some.line.now (lines c.in-Some.after.now) (lines c.loop-number.rest.now) result c.loop-number-test.true c.in-Some.ensures
    c.in_ok-take_line.ensures rest)

pub returns-in_default : goal.returns-in_default
returns-in_default c =
    inr (c.loop-number.invariant _
    (ended_at c.loop-number.number c.loop-number.heading c.loop-number.deals.items (lines c.loop-number.rest.now)
    c.loop-number-test.true c.in_default.ensures))

pub returns-in_err-take_line : goal.returns-in_err-take_line
returns-in_err-take_line c =
    let p = err_from_is_err_and c.from_residual.result c.from_residual.ensures.1 in
    rw (p.1, p.2) (stopped c.loop-number.number c.loop-number.heading c.take_line.new.heading c.loop-number.deals.items c.take_line.new.deals.items
    c.in-Some.line.now (lines c.in-Some.after.now) (lines c.loop-number.rest.now) (lines c.args.text.now) _
    c.loop-number-test.true c.in-Some.ensures c.in_err-take_line.ensures c.loop-number.invariant)

pub returns : goal.returns
returns c =
    inr (c.loop-number.invariant _
    (too_many c.loop-number.number c.loop-number.heading c.loop-number.deals.items (lines c.loop-number.rest.now)
    (omega (arith, c.loop-number-test.false, c.loop-number.auto.number-end))))
