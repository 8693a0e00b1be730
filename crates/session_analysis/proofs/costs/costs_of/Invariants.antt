use Rattle.std.proofs.Common.{◌≡◌, take}
use Rattle.std.specs.Prelude.{map, flat_map}
use Rattle.std.specs.Option.{option_to_list}
use Rattle.session_analysis.specs.Analysed.{cost_on, seen_costs}
use Rattle.session_analysis.proofs.costs.costs_of.Given as goal

abbrev pub invariant-loop-play : goal.invariant-loop-play
invariant-loop-play l =
    map seen_costs l.found.items ≡ flat_map (λ play. option_to_list (cost_on l.session play)) (take l.play-index l.plays)
