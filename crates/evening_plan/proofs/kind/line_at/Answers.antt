use Rattle.std.proofs.Common.{◌≡◌, ◌+◌, ◌-◌, sym, ◌∙◌, arith}
use Rattle.std.specs.Str.Lines.{lines}
use Rattle.evening_plan.proofs.Lines.{line_there, lines_after, line_past}
use Rattle.evening_plan.proofs.kind.line_at.Goals as goal

pub returns-in_err-after : goal.returns-in_err-after
returns-in_err-after c =
    rw c.from_residual.ensures (line_past (lines c.args.text.now) (c.loop-index._index - 1) (c.args.number - 1)
    (sym c.loop-index.invariant.left ∙ c.in_err-after.ensures) (omega (arith, c.loop-index-test.true)))

pub loop-index-preserved : goal.loop-index-preserved
loop-index-preserved c =
    let next : c.loop-index._index - 1 + 1 ≡ c.loop-index._index + 1 - 1 = omega (arith, c.loop-index.invariant.least) in
    let after = lines_after (lines c.args.text.now) (c.loop-index._index - 1) _ _ (sym c.loop-index.invariant.left ∙ c.in_ok-after.ensures) in
    record { left = rw next at after; least = omega arith; most = omega (arith, c.loop-index-test.true) }

pub returns : goal.returns
returns c =
    let there : c.loop-index._index - 1 ≡ c.args.number - 1
    = omega (arith, c.loop-index-test.false, c.loop-index.invariant.least, c.loop-index.invariant.most) in
    let left = rw there at c.loop-index.invariant.left in
    line_there (lines c.args.text.now) (c.args.number - 1) _ _ (sym left ∙ c.in_ok-line.ensures)

pub returns-in_err-line : goal.returns-in_err-line
returns-in_err-line c =
    rw c.from_residual-in_err-line.ensures (line_past (lines c.args.text.now) (c.loop-index._index - 1) (c.args.number - 1)
    (sym c.loop-index.invariant.left ∙ c.in_err-line.ensures) c.loop-index.invariant.most)
