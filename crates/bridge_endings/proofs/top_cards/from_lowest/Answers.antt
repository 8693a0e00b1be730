use Rattle.bridge_endings.proofs.Answered.{upward_union}
use Rattle.bridge_endings.proofs.top_cards.from_lowest.Goals as goal

pub returns : goal.returns
returns c =
    upward_union c.union-minor.result c.union-major.result c.union.result c.union.ensures.cards
    (upward_union c.from_lowest_of.result c.from_lowest_of-2.result c.union-minor.result c.union-minor.ensures.cards c.from_lowest_of.ensures c.from_lowest_of-2.ensures)
    (upward_union c.from_lowest_of-3.result c.from_lowest_of-4.result c.union-major.result c.union-major.ensures.cards c.from_lowest_of-3.ensures c.from_lowest_of-4.ensures)
