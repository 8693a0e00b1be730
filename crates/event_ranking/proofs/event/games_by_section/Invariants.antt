use Rattle.std.proofs.Common.{◌≡◌, map, take}
use Rattle.std.specs.Prelude.{All}
use Rattle.bridge_ranking.specs.Ranking.{games_of}
use Rattle.event_ranking.specs.Wide.{AreOfSection}
use Rattle.event_ranking.proofs.event.games_by_section.Given as goal

abbrev pub invariant-loop-session : goal.invariant-loop-session
invariant-loop-session l = record {
  games : map (λ games. games.items) l.lists.items ≡ map games_of (take l.session-index l.sections);
  each : All AreOfSection (map (λ games. games.items) l.lists.items);
}
