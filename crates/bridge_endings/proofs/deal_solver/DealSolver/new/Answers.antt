use Rattle.std.proofs.Common.{sym, subst, arith}
use Rattle.bridge_cards.specs.Deal.{IsDeal}
use Rattle.bridge_endings.proofs.Finding.{nothing_found, nothing_table}
use Rattle.bridge_endings.proofs.deal_solver.DealSolver.new.Goals as goal

pub of-requires : goal.of-requires
of-requires c = nothing_found c.nothing.result c.nothing.ensures

pub invariant_of-result : goal.invariant_of-result
invariant_of-result c = record {
  deal = subst IsDeal (sym c.hands.ensures.hands) c.hands.ensures.deal;
  found = nothing_table 114688 (omega arith) c.of.result c.of.ensures c.in_ok-vec.field-0.items (c.in_ok-vec.ensures.items_if_clones_equal (λ y e. e));
}
