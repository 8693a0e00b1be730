use Rattle.std.proofs.Common.{◌≤◌, ◌*◌, ◌/◌, length, sym, subst, arith}
use Rattle.bridge_play.specs.Play.{PlayValue}
use Rattle.bridge_play.proofs.HandsLeft.{equal_hands, none_twice}
use Rattle.bridge_play.proofs.play.Play.hands_after.Goals as goal
use Rattle.bridge_play.proofs.play.Play.hands_after.Goals.{After-left_after}

-- so many tricks were played
within : (c : After-left_after) → 4 * c.args.tricks ≤ length c.self.inside.card_play.cards
within c =
    let tricks : c.args.tricks ≤ length c.self.inside.card_play.cards / 4 =
    subst (λ (p : PlayValue). c.args.tricks ≤ length p.cards / 4) (sym c.self.view_is) c.requires in
    omega (arith, tricks)

pub returns-clause-equal : goal.returns-clause-equal
returns-clause-equal c =
    let play = c.self.inside.card_play in
    equal_hands play.hands c.left_after.ensures.deal play.contract play.cards c.self.invariant.legal c.left_after.result c.left_after.ensures.four c.args.tricks (within c) c.left_after.ensures.left

pub returns-clause-once : goal.returns-clause-once
returns-clause-once c =
    let play = c.self.inside.card_play in
    none_twice play.hands c.left_after.ensures.deal play.contract play.cards c.self.invariant.legal c.left_after.result c.left_after.ensures.four c.args.tricks (within c) c.left_after.ensures.left
