use Rattle.std.proofs.Common.{◌≡◌, length}
use Rattle.auction_command.specs.Heard.{Heard}
use Rattle.auction_command.proofs.run.answer_lines.Given as goal

abbrev pub invariant-loop-left : goal.invariant-loop-left
invariant-loop-left g l = record {
  heard : Heard l.fn.auction_lines.dealer (g.R.Read.remaining l.fn.reader) (g.R.Read.remaining l.reader) (g.W.Write.contents l.fn.writer) (g.W.Write.contents l.writer) l.auction_lines l.left;
  room : length l.piece ≡ 1024;
}

abbrev pub decreases-loop-left : goal.decreases-loop-left
decreases-loop-left g l = l.left
