use Rattle.std.proofs.Common.{◌≡◌, ◌≤◌, length, take}
use Rattle.std.specs.Prelude.{All}
use Rattle.std.specs.List.{filter_map}
use Rattle.bridge_ranking.specs.KeptGames.{IsGame}
use Rattle.bridge_results.specs.Comparison.{game_of}
use Rattle.bridge_results.proofs.compare.games_among.Given as goal

abbrev pub invariant-loop-play : goal.invariant-loop-play
invariant-loop-play l = record {
  games : l.games.items ≡ filter_map game_of (take l.play-index l.plays);
  each : All IsGame l.games.items;
  few : length l.games.items ≤ l.play-index;
}
