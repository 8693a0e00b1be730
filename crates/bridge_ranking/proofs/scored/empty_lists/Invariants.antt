use Rattle.std.proofs.Common.{◌≡◌, [], map}
use Rattle.std.specs.List.{range_with_len}
use Rattle.bridge_ranking.proofs.scored.empty_lists.Given as goal

abbrev pub invariant-loop : goal.invariant-loop
invariant-loop l = record {
  lists : map (λ scores. scores.items) l.lists.items ≡ map (λ _. []) (range_with_len 1 l.counter);
}
