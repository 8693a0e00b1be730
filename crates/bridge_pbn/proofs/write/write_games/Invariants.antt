use Rattle.std.proofs.Common.{◌≡◌, ◌-◌, ◌≤◌, false, take}
use Rattle.std.specs.List.{range_with_len}
use Rattle.line_text.specs.Streams.{between, Takes}
use Rattle.line_text.specs.Lines.{lines_text}
use Rattle.bridge_pbn.specs.Games.{games_on_boards}
use Rattle.bridge_pbn.specs.Written.{games_after, has_begun}
use Rattle.bridge_pbn.proofs.write.write_games.Given as goal

abbrev pub invariant-loop-number : goal.invariant-loop-number
invariant-loop-number g l = record {
  taken : Takes (between (g.W.Write.contents l.fn.writer) (g.W.Write.contents l.writer)) (lines_text (games_after false (games_on_boards l.session (take (l.number - 1) (range_with_len 1 36)))));
  begun : l.begun ≡ has_begun false (games_on_boards l.session (take (l.number - 1) (range_with_len 1 36)));
  least : 1 ≤ l.number;
}
