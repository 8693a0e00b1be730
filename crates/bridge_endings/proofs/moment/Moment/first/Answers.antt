use Rattle.std.proofs.Common.{◌∙◌}
use Rattle.bridge_endings.proofs.Moments.{first_is, first_seen}
use Rattle.bridge_endings.proofs.moment.Moment.first.Goals as goal

pub returns-clause-moment : goal.returns-clause-moment
returns-clause-moment c =
    first_is c.args.hands.now c.whole_deck.result c.requires c.whole_deck.ensures.all c.args.trump c.new.result c.new.ensures.trump c.new.ensures.cards c.whole_deck.ensures.count

pub returns-clause-first : goal.returns-clause-first
returns-clause-first c =
    first_seen c.args.hands.now c.whole_deck.result c.requires c.whole_deck.ensures.all c.args.declarer c.new.result (c.new.ensures.leader ∙ c.left.ensures) c.new.ensures.cards c.whole_deck.ensures.count
