use Rattle.std.proofs.Common.{ℕ, ◌<◌, IsTrue}
use Rattle.bridge_cards.specs.Seat.{clockwise_from}
use Rattle.bridge_endings.specs.Left.{left_to}
use Rattle.bridge_endings.proofs.sure_card.others_have_cards.Given as goal

abbrev pub invariant-loop-index : goal.invariant-loop-index
invariant-loop-index l =
    (index : ℕ) → 0 < index → index < l.index → (card : ℕ) × IsTrue (left_to l.hands l.left (clockwise_from l.leader index) card)
