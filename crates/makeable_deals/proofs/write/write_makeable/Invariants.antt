use Rattle.std.proofs.Common.{take}
use Rattle.std.specs.Prelude.{flat_map}
use Rattle.line_text.specs.Streams.{between, Takes}
use Rattle.makeable_deals.specs.Makeable.{deal_lines}
use Rattle.makeable_deals.proofs.write.write_makeable.Given as goal

abbrev pub invariant-loop-deal : goal.invariant-loop-deal
invariant-loop-deal g l =
    Takes (between (g.W.Write.contents l.fn.writer) (g.W.Write.contents l.writer)) (flat_map deal_lines (take l.deal-index l.deals))
