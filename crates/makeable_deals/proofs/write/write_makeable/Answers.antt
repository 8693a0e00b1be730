use Rattle.std.proofs.Common.{rules}
use Rattle.page_layout.proofs.Walk.{one_failed}
use Rattle.makeable_deals.specs.Makeable.{deal_lines}
use Rattle.makeable_deals.proofs.write.write_makeable.Goals as goal

pub returns-in_err-write_deal : goal.returns-in_err-write_deal
returns-in_err-write_deal g c =
    one_failed deal_lines c.args.deals.now c.loop-deal.deal-index c.deal-item.result (g.W.Write.contents c.args.writer.now)
    (g.W.Write.contents c.loop-deal.writer) (g.W.Write.contents c.write_deal.new.writer) c.from_residual.result
    c.loop-deal.invariant c.in_err-write_deal.ensures c.from_residual.ensures.0 (search rules) c.loop-deal-test.true
