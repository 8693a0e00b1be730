use Rattle.std.proofs.Common.{◌<◌, ℕ}
use Rattle.bridge_cards.specs.Board.{IsBoard}
use Rattle.event_ranking.specs.OneField.{HaveOneDeal}
use Rattle.event_ranking.proofs.field.first_other_deal.Given as goal

abbrev pub invariant-loop-number : goal.invariant-loop-number
invariant-loop-number l = (board : ℕ) → IsBoard board → board < l.number → HaveOneDeal l.ours.deals l.theirs.deals board
