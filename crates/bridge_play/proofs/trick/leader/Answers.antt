use Rattle.std.proofs.Common.{add-one, refl}
use Rattle.bridge_play.proofs.trick.leader.Goals as goal

pub loop-earlier-preserved : goal.loop-earlier-preserved
loop-earlier-preserved c =
    rw (
      add-one,
      c.clockwise-leader-in-loop-earlier.ensures,
      c.winning_index.ensures.index,
      c.suit.ensures,
      c.split_at-in-loop-earlier.ensures.front,
      c.split_at.ensures.back,
      c.loop-earlier.invariant,
    ) refl
