use Rattle.std.proofs.Common.{arith}
use Rattle.bridge_pbn.specs.Sections.{calls_line}
use Rattle.bridge_pbn.proofs.Pushed.{one_more}
use Rattle.bridge_pbn.proofs.auction_section.push_lines.Goals as goal

pub loop-line-preserved : goal.loop-line-preserved
loop-line-preserved c = record {
  text = one_more (calls_line c.args.calls.now) _ _ _ c.loop-line.line c.loop-line.invariant.text c.push_line.ensures.line;
  room = omega arith;
}
