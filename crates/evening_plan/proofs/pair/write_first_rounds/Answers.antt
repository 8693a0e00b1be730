use Rattle.std.proofs.Common.{arith}
use Rattle.evening_plan.specs.Evening.{evening_of}
use Rattle.evening_plan.specs.PairText.{round_text}
use Rattle.evening_plan.proofs.Numbers.{number_taken, number_failed, numbers_taken}
use Rattle.evening_plan.proofs.pair.write_first_rounds.Goals as goal

pub returns-in_err-write_round : goal.returns-in_err-write_round
returns-in_err-write_round g c =
    number_failed (round_text (evening_of c.args.config.now) c.args.pair) c.args.rounds c.loop-round.round
    (g.W.Write.contents c.args.writer.now) (g.W.Write.contents c.loop-round.writer) (g.W.Write.contents c.write_round.new.writer) c.from_residual.result
    c.from_residual.ensures.0 c.loop-round.invariant.least (omega arith) c.loop-round.invariant.taken c.in_err-write_round.ensures

pub loop-round-preserved : goal.loop-round-preserved
loop-round-preserved g c = record {
  taken =
      number_taken (round_text (evening_of c.args.config.now) c.args.pair) c.args.rounds c.loop-round.round
      (g.W.Write.contents c.args.writer.now) (g.W.Write.contents c.loop-round.writer) (g.W.Write.contents c.write_round.new.writer)
      c.loop-round.invariant.least (omega arith) c.loop-round.invariant.taken c.in_ok-write_round.ensures;
  least = omega arith;
}

pub returns : goal.returns
returns g c =
    numbers_taken (round_text (evening_of c.args.config.now) c.args.pair) c.args.rounds c.loop-round.round
    (g.W.Write.contents c.args.writer.now) (g.W.Write.contents c.loop-round.writer) (omega arith) c.loop-round.invariant.taken
