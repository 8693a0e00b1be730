use Rattle.std.proofs.Common.{◌≡◌, map, take}
use Rattle.std.specs.Prelude.{All}
use Rattle.bridge_results.specs.Plays.{plays_of, HasTricksWithin}
use Rattle.event_results.proofs.plays.plays_by_section.Given as goal

abbrev pub invariant-loop-session : goal.invariant-loop-session
invariant-loop-session l = record {
  plays : map (λ plays. plays.items) l.lists.items ≡ map plays_of (take l.session-index l.sections);
  tricks : All (All HasTricksWithin) (map (λ plays. plays.items) l.lists.items);
}
