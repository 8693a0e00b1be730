use Rattle.std.proofs.Common.{arith, rules}
use Rattle.event_ranking.proofs.Alike.{boards_more}
use Rattle.event_ranking.proofs.field.first_other_deal.Goals as goal

pub loop-number-preserved : goal.loop-number-preserved
loop-number-preserved c =
    let board = rw c.unwrap-board.ensures at c.new.ensures.value in
    boards_more c.args.ours.now.deals c.args.theirs.now.deals c.loop-number.number c.unwrap-board.result c.loop-number.invariant board
    (c.have_one_deal.ensures.0 (search rules))

pub returns : goal.returns
returns c = λ board is. c.loop-number.invariant board is (omega (arith, is.1))
