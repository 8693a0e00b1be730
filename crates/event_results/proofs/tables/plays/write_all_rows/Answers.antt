use Rattle.std.proofs.Common.{arith}
use Rattle.event_results.specs.EventTables.{board_rows, all_rows}
use Rattle.bridge_results.proofs.WrittenRows.{number_taken, number_failed, numbers_taken}
use Rattle.event_results.proofs.tables.plays.write_all_rows.Goals as goal

pub returns-in_err-write_board_rows : goal.returns-in_err-write_board_rows
unfolding all_rows
returns-in_err-write_board_rows g c =
    let board = rw c.unwrap-board.ensures at c.new.ensures.value in
    number_failed (board_rows c.args.results.now) 36 c.loop-number.number
    (g.W.Write.contents c.args.writer.now) (g.W.Write.contents c.loop-number.writer) (g.W.Write.contents c.write_board_rows.new.writer) c.from_residual.result
    c.from_residual.ensures.0 c.loop-number.invariant.least (omega arith) c.loop-number.invariant.taken (rw board at c.in_err-write_board_rows.ensures)

pub loop-number-preserved : goal.loop-number-preserved
loop-number-preserved g c =
    let board = rw c.unwrap-board.ensures at c.new.ensures.value in
    record {
      taken =
          number_taken (board_rows c.args.results.now) 36 c.loop-number.number
          (g.W.Write.contents c.args.writer.now) (g.W.Write.contents c.loop-number.writer) (g.W.Write.contents c.write_board_rows.new.writer)
          c.loop-number.invariant.least (omega arith) c.loop-number.invariant.taken (rw board at c.in_ok-write_board_rows.ensures);
      least = omega arith;
    }

pub returns : goal.returns
unfolding all_rows
returns g c =
    numbers_taken (board_rows c.args.results.now) 36 c.loop-number.number
    (g.W.Write.contents c.args.writer.now) (g.W.Write.contents c.loop-number.writer) (omega arith) c.loop-number.invariant.taken
