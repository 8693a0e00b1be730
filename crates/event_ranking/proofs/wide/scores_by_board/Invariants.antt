use Rattle.std.proofs.Common.{◌≡◌, map}
use Rattle.std.specs.List.{range_with_len}
use Rattle.bridge_cards.specs.declared.seat.Side.TheVariants.{NorthSouth}
use Rattle.bridge_ranking.specs.Ranking.{scores_on}
use Rattle.event_ranking.specs.Joint.{joint}
use Rattle.event_ranking.proofs.wide.scores_by_board.Given as goal

abbrev pub invariant-loop-index : goal.invariant-loop-index
invariant-loop-index l =
    map (λ scores. scores.items) l.lists.items ≡ map (scores_on (joint (map (λ games. games.items) l.sections)) NorthSouth) (range_with_len 1 l.index)
