use Rattle.std.proofs.Common.{◌≡◌, take}
use Rattle.std.specs.List.{filter_map}
use Rattle.line_text.specs.Streams.{between, Takes}
use Rattle.line_text.specs.Lines.{lines_text}
use Rattle.bridge_pbn.specs.Games.{game_at}
use Rattle.bridge_pbn.specs.Written.{games_after, has_begun}
use Rattle.bridge_pbn.proofs.write.write_board.Given as goal

abbrev pub invariant-loop-row : goal.invariant-loop-row
invariant-loop-row g l = record {
  taken : Takes (between (g.W.Write.contents l.fn.writer) (g.W.Write.contents l.writer)) (lines_text (games_after l.fn.begun (filter_map (game_at l.session l.board) (take l.row-index l.rows))));
  begun : l.begun_now ≡ has_begun l.fn.begun (filter_map (game_at l.session l.board) (take l.row-index l.rows));
}
