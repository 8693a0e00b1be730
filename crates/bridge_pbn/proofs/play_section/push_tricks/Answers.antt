use Rattle.std.proofs.Common.{arith}
use Rattle.bridge_pbn.specs.Sections.{trick_line}
use Rattle.bridge_pbn.proofs.Pushed.{one_more}
use Rattle.bridge_pbn.proofs.play_section.push_tricks.Goals as goal

pub loop-trick-preserved : goal.loop-trick-preserved
loop-trick-preserved c = record {
  text = one_more (trick_line c.args.play.now.contract c.args.play.now.cards) _ _ _ c.loop-trick.trick c.loop-trick.invariant.text c.push_trick.ensures.line;
  room = omega arith;
}
