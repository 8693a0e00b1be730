use Rattle.std.proofs.Common.{◌+◌, ◌-◌, ◌*◌, not, length}
use Rattle.bridge_cards.specs.CardSet.{card_count}
use Rattle.bridge_endings.specs.SearchValue.{GoesOn, IsTable}
use Rattle.bridge_endings.specs.Left.{left_to}
use Rattle.bridge_endings.proofs.Answered.{IsAnswered}
use Rattle.bridge_endings.proofs.search.Search.+search.Given as goal

abbrev pub decreases-reaches : goal.decreases-reaches
decreases-reaches l = 64 * (4 * l.tricks - length l.trick.now.cards) + 1

-- no more than 52 cards are gone
abbrev pub decreases-reaches_from : goal.decreases-reaches_from
decreases-reaches_from l = 64 * (4 * l.tricks) + 60

abbrev pub decreases-reaches_closed : goal.decreases-reaches_closed
decreases-reaches_closed l = 64 * (4 * l.tricks) + 3 + card_count l.gone

abbrev pub decreases-reaches_kept : goal.decreases-reaches_kept
decreases-reaches_kept l = 64 * (4 * l.tricks) + 2

abbrev pub decreases-reaches_with : goal.decreases-reaches_with
decreases-reaches_with l = 64 * (4 * l.tricks - length l.trick.now.cards)

abbrev pub invariant-reaches-loop-card : goal.invariant-reaches-loop-card
invariant-reaches-loop-card l = record {
  answered : IsAnswered l.fn.self.trump (4 * l.tricks - length l.trick.cards - 1) l.need (left_to l.hands l.left) l.trick.leader l.trick.cards l.initial.rest l.rest l.counts (not l.sought);
  later : GoesOn l.fn.self l.self;
  table : IsTable l.table;
}

abbrev pub decreases-reaches-loop-card : goal.decreases-reaches-loop-card
decreases-reaches-loop-card l = card_count l.rest
