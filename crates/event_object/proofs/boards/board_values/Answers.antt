use Rattle.std.proofs.Common.{arith}
use Rattle.event_object.specs.EventObject.{board_data}
use Rattle.results_object.proofs.Lists.{number_more, all_numbers}
use Rattle.event_object.proofs.boards.board_values.Goals as goal

pub loop-number-preserved : goal.loop-number-preserved
loop-number-preserved c =
    let board = rw c.unwrap-board.ensures at c.new.ensures.value in
    record {
      made =
          number_more (board_data c.args.results.now) 36 c.loop-number.number c.loop-number.list.items c.push.new.list.items c.in_ok-value.value
          c.loop-number.invariant.least (omega arith) c.loop-number.invariant.made (rw board at c.in_ok-value.ensures) c.in_ok-push.ensures.ok;
      least = omega arith;
    }

pub returns : goal.returns
returns c = all_numbers (board_data c.args.results.now) 36 c.loop-number.number c.loop-number.list.items (omega arith) c.loop-number.invariant.made
