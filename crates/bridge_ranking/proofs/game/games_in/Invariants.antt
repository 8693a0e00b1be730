use Rattle.std.proofs.Common.{◌≡◌, ◌≤◌, length, take}
use Rattle.std.specs.Prelude.{All}
use Rattle.std.specs.List.{filter_map}
use Rattle.bridge_ranking.specs.KeptGames.{kept_game, IsGame}
use Rattle.bridge_ranking.proofs.game.games_in.Given as goal

abbrev pub invariant-loop-record : goal.invariant-loop-record
invariant-loop-record l = record {
  games : l.games.items ≡ filter_map (kept_game l.row) (take l.record-index l.table);
  each : All IsGame l.games.items;
  few : length l.games.items ≤ l.record-index;
}
