use Rattle.std.proofs.Common.{◌≡◌, ◌-◌, ◌*◌, ◌≤◌, []}
use Rattle.bridge_endings.specs.Between.{IsBounded}
use Rattle.bridge_endings.specs.Worth.{dealt, worth_with}
use Rattle.bridge_endings.specs.SearchValue.{IsTable}
use Rattle.bridge_endings.proofs.solver.tricks_won.Given as goal

abbrev pub invariant-loop-bounds : goal.invariant-loop-bounds
invariant-loop-bounds l = record {
  bounded : IsBounded (worth_with l.fn.search.trump (4 * l.fn.tricks) (dealt l.fn.hands) l.fn.leader []) l.bounds;
  few : l.bounds.most ≤ l.fn.tricks;
  trump : l.search.trump ≡ l.fn.search.trump;
  limit : l.search.limit ≡ l.fn.search.limit;
  tried : l.fn.search.tried ≤ l.search.tried;
  table : IsTable l.table;
}

abbrev pub decreases-loop-bounds : goal.decreases-loop-bounds
decreases-loop-bounds l = l.bounds.most - l.bounds.least
