use Rattle.std.proofs.Common.{subst, sym}
use Rattle.bridge_cards.specs.Shuffle.{IsDealtFrom}
use Rattle.bridge_cards.specs.BadDeal.{JudgesHands}
use Rattle.bridge_cards.proofs.DealtHands.{parts_dealt}
use Rattle.bridge_cards.proofs.JudgedDeals.{judged_ok}
use Rattle.bridge_cards.proofs.shuffle.deal_out.Goals as goal

pub unwrap-requires : goal.unwrap-requires
unwrap-requires c =
    let hands = parts_dealt _ _ c.as_slice-cards.ensures c.requires _ _ _ _ c.set_of.ensures c.set_of-2.ensures c.set_of-3.ensures c.set_of-4.ensures in
    judged_ok _ c.from_hands.result c.from_hands.ensures.judged hands.once hands.each

pub returns-clause-dealt : goal.returns-clause-dealt
returns-clause-dealt c =
    let hands = parts_dealt _ _ c.as_slice-cards.ensures c.requires _ _ _ _ c.set_of.ensures c.set_of-2.ensures c.set_of-3.ensures c.set_of-4.ensures in
    let judged = subst (JudgesHands _) c.unwrap.ensures c.from_hands.ensures.judged in
    subst (IsDealtFrom c.args.order.now) (sym judged.0) hands.from
