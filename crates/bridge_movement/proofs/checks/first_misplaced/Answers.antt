use Rattle.std.proofs.Common.{◌≡◌, ◌<◌, true, below_more, arith}
use Rattle.bridge_movement.specs.Fair.{IsInPlace}
use Rattle.bridge_movement.specs.Shape.{row_count}
use Rattle.bridge_movement.proofs.Order.{in_place, misplaced_at, lacking}
use Rattle.bridge_movement.proofs.checks.first_misplaced.Goals as goal

pub returns-then-not-is_due-clause-first : goal.returns-then-not-is_due-clause-first
returns-then-not-is_due-clause-first c =
    misplaced_at c.args.shape c.args.rows.now c.loop-index.index _ c.loop-index-test.true c.loop-index.invariant.before
    (λ due. let t : c.is_due.result ≡ true = c.is_due.ensures.1 due in cc)

pub loop-index-preserved : goal.loop-index-preserved
loop-index-preserved c =
    let due = c.is_due.ensures.0 c.if-not-is_due.false in
    record {
      due = let less : c.loop-index.index < row_count c.args.shape = due.0 in omega arith;
      before = below_more (λ k. IsInPlace c.args.shape c.args.rows.now k) _ c.loop-index.invariant.before
          (in_place c.args.shape c.args.rows.now c.loop-index.index _ c.loop-index-test.true due);
    }

pub returns-then-rows-row_count-clause-first : goal.returns-then-rows-row_count-clause-first
returns-then-rows-row_count-clause-first c =
    lacking c.args.shape c.args.rows.now (omega arith) (λ k h. c.loop-index.invariant.before k (omega arith))

pub returns-else-rows-row_count-clause-first : goal.returns-else-rows-row_count-clause-first
returns-else-rows-row_count-clause-first c = record {
  count = omega arith;
  order = λ k h. c.loop-index.invariant.before k (omega arith);
}
