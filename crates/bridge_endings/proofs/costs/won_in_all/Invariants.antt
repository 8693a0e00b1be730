use Rattle.std.proofs.Common.{◌-◌}
use Rattle.bridge_endings.specs.Between.{IsBounded}
use Rattle.bridge_endings.specs.SearchValue.{GoesOn, IsTable}
use Rattle.bridge_endings.specs.PlayedCards.{seen, won_in_all}
use Rattle.bridge_endings.proofs.costs.won_in_all.Given as goal

abbrev pub invariant-loop-bounds : goal.invariant-loop-bounds
invariant-loop-bounds l = record {
  bounded : IsBounded (won_in_all l.fn.search.trump (seen l.moment)) l.bounds;
  later : GoesOn l.fn.search l.search;
  table : IsTable l.table;
}

abbrev pub decreases-loop-bounds : goal.decreases-loop-bounds
decreases-loop-bounds l = l.bounds.most - l.bounds.least
