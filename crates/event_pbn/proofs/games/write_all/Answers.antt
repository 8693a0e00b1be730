use Rattle.std.proofs.Common.{arith}
use Rattle.bridge_results.proofs.WrittenRows.{number_taken, number_failed, numbers_taken}
use Rattle.event_pbn.specs.EventGames.{seen, game_on, all_games}
use Rattle.event_pbn.proofs.games.write_all.Goals as goal

pub returns-in_err-write_game_on : goal.returns-in_err-write_game_on
unfolding all_games
returns-in_err-write_game_on g c =
    let board = rw c.unwrap-board.ensures at c.new.ensures.value in
    number_failed (game_on (seen c.args.games.now)) 36 c.loop-number.number
    (g.W.Write.contents c.args.writer.now) (g.W.Write.contents c.loop-number.writer) (g.W.Write.contents c.write_game_on.new.writer) c.from_residual.result
    c.from_residual.ensures.0 c.loop-number.invariant.least (omega arith) c.loop-number.invariant.taken (rw board at c.in_err-write_game_on.ensures)

pub loop-number-preserved : goal.loop-number-preserved
loop-number-preserved g c =
    let board = rw c.unwrap-board.ensures at c.new.ensures.value in
    record {
      taken =
          number_taken (game_on (seen c.args.games.now)) 36 c.loop-number.number
          (g.W.Write.contents c.args.writer.now) (g.W.Write.contents c.loop-number.writer) (g.W.Write.contents c.write_game_on.new.writer)
          c.loop-number.invariant.least (omega arith) c.loop-number.invariant.taken (rw board at c.in_ok-write_game_on.ensures);
      least = omega arith;
    }

pub returns : goal.returns
unfolding all_games
returns g c =
    numbers_taken (game_on (seen c.args.games.now)) 36 c.loop-number.number
    (g.W.Write.contents c.args.writer.now) (g.W.Write.contents c.loop-number.writer) (omega arith) c.loop-number.invariant.taken
