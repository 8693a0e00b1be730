use Rattle.std.proofs.Common.{arith}
use Rattle.event_results.specs.EventPage.{board_on, all_boards}
use Rattle.bridge_results.proofs.WrittenRows.{number_taken, number_failed, numbers_taken}
use Rattle.event_results.proofs.pages.boards.write_boards.Goals as goal

pub returns-in_err-write_board_of : goal.returns-in_err-write_board_of
unfolding all_boards
returns-in_err-write_board_of g c =
    let board = rw c.unwrap-board.ensures at c.new.ensures.value in
    number_failed (board_on c.args.format c.args.boards.now c.args.results.now) 36 c.loop-number.number
    (g.W.Write.contents c.args.writer.now) (g.W.Write.contents c.loop-number.writer) (g.W.Write.contents c.write_board_of.new.writer) c.from_residual.result
    c.from_residual.ensures.0 c.loop-number.invariant.least (omega arith) c.loop-number.invariant.taken (rw board at c.in_err-write_board_of.ensures)

pub loop-number-preserved : goal.loop-number-preserved
loop-number-preserved g c =
    let board = rw c.unwrap-board.ensures at c.new.ensures.value in
    record {
      taken =
          number_taken (board_on c.args.format c.args.boards.now c.args.results.now) 36 c.loop-number.number
          (g.W.Write.contents c.args.writer.now) (g.W.Write.contents c.loop-number.writer) (g.W.Write.contents c.write_board_of.new.writer)
          c.loop-number.invariant.least (omega arith) c.loop-number.invariant.taken (rw board at c.in_ok-write_board_of.ensures);
      least = omega arith;
    }

pub returns : goal.returns
unfolding all_boards
returns g c =
    numbers_taken (board_on c.args.format c.args.boards.now c.args.results.now) 36 c.loop-number.number
    (g.W.Write.contents c.args.writer.now) (g.W.Write.contents c.loop-number.writer) (omega arith) c.loop-number.invariant.taken
