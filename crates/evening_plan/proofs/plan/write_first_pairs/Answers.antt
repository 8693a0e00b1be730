use Rattle.std.proofs.Common.{arith}
use Rattle.evening_plan.specs.Evening.{shown_evening}
use Rattle.evening_plan.specs.PairText.{pair_plan}
use Rattle.evening_plan.proofs.Numbers.{number_taken, number_failed, numbers_taken}
use Rattle.evening_plan.proofs.plan.write_first_pairs.Goals as goal

pub returns-in_err-write_pair : goal.returns-in_err-write_pair
returns-in_err-write_pair g c =
    number_failed (pair_plan (shown_evening c.args.config.now c.args.names)) c.args.pairs c.loop-pair.pair
    (g.W.Write.contents c.args.writer.now) (g.W.Write.contents c.loop-pair.writer) (g.W.Write.contents c.write_pair.new.writer) c.from_residual.result
    c.from_residual.ensures.0 c.loop-pair.invariant.least (omega arith) c.loop-pair.invariant.taken c.in_err-write_pair.ensures

pub loop-pair-preserved : goal.loop-pair-preserved
loop-pair-preserved g c = record {
  taken =
      number_taken (pair_plan (shown_evening c.args.config.now c.args.names)) c.args.pairs c.loop-pair.pair
      (g.W.Write.contents c.args.writer.now) (g.W.Write.contents c.loop-pair.writer) (g.W.Write.contents c.write_pair.new.writer)
      c.loop-pair.invariant.least (omega arith) c.loop-pair.invariant.taken c.in_ok-write_pair.ensures;
  least = omega arith;
}

pub returns : goal.returns
returns g c =
    numbers_taken (pair_plan (shown_evening c.args.config.now c.args.names)) c.args.pairs c.loop-pair.pair
    (g.W.Write.contents c.args.writer.now) (g.W.Write.contents c.loop-pair.writer) (omega arith) c.loop-pair.invariant.taken
