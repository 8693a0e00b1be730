use Rattle.std.proofs.Common.{take, length}
use Rattle.std.specs.Prelude.{flat_map}
use Rattle.std.specs.List.{range_with_len}
use Rattle.line_text.specs.Streams.{between, Takes}
use Rattle.bridge_results.specs.HtmlCourse.{trick_row, fours}
use Rattle.bridge_results.proofs.html.tricks.write_tricks.Given as goal

abbrev pub invariant-loop-trick : goal.invariant-loop-trick
invariant-loop-trick g l =
    Takes (between (g.W.Write.contents l.fn.writer) (g.W.Write.contents l.writer)) (flat_map (trick_row l.play.contract l.play.cards l.costs) (take l.trick (range_with_len 0 (fours (length l.play.cards)))))
