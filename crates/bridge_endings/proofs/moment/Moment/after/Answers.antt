use Rattle.std.proofs.Common.{refl, ◌∙◌, arith}
use Rattle.bridge_endings.proofs.Moments.{part_is, part_seen, whole_is, whole_seen}
use Rattle.bridge_endings.proofs.moment.Moment.after.Goals as goal

pub returns-then-len-lt4-clause-moment : goal.returns-then-len-lt4-clause-moment
returns-then-len-lt4-clause-moment c =
    part_is c.args.self.now.trick.trump c.args.self.now c.requires.moment c.args.card c.without-left.result c.requires.legal c.without-left.ensures c.with-trick.result c.with-trick.result.cards c.with-trick.ensures.cards
    c.with-trick.ensures.trump refl (omega arith)

pub returns-then-len-lt4-clause-after : goal.returns-then-len-lt4-clause-after
returns-then-len-lt4-clause-after c =
    part_seen c.args.self.now.trick.trump c.args.self.now c.requires.moment c.args.card c.without-left.result c.requires.legal c.without-left.ensures c.with-trick.result c.with-trick.result.cards c.with-trick.ensures.cards
    c.with-trick.ensures.leader refl (omega arith)

pub returns-clause-moment : goal.returns-clause-moment
returns-clause-moment c =
    whole_is c.args.self.now.trick.trump c.args.self.now c.requires.moment c.args.card c.without-left.result c.requires.legal c.without-left.ensures c.new.result c.with-trick.result.cards c.with-trick.ensures.cards
    c.winner-winner.result c.won_with.result (omega arith)
    (rw (c.with-trick.ensures.trump, c.with-trick.ensures.leader) at c.winner-winner.ensures) c.won_with.ensures (c.new.ensures.trump ∙ c.trump.ensures) c.new.ensures.cards

pub returns-clause-after : goal.returns-clause-after
returns-clause-after c =
    whole_seen c.args.self.now.trick.trump c.args.self.now c.requires.moment c.args.card c.without-left.result c.requires.legal c.without-left.ensures c.new.result c.with-trick.result.cards c.with-trick.ensures.cards
    c.winner-winner.result c.won_with.result (omega arith)
    (rw (c.with-trick.ensures.trump, c.with-trick.ensures.leader) at c.winner-winner.ensures) c.won_with.ensures c.new.ensures.leader c.new.ensures.cards
