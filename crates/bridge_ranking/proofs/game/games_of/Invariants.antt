use Rattle.std.proofs.Common.{◌≡◌, ◌≤◌, ◌*◌, length, take}
use Rattle.std.specs.Prelude.{All, flat_map, zip}
use Rattle.bridge_ranking.specs.KeptGames.{kept_games_in, IsGame}
use Rattle.bridge_table.proofs.Tables.{lists_in}
use Rattle.bridge_ranking.proofs.game.games_of.Given as goal

abbrev pub invariant-loop-index : goal.invariant-loop-index
invariant-loop-index l = record {
  games : l.games.items ≡ flat_map kept_games_in (take l.index (zip l.rows (lists_in l.tables)));
  each : All IsGame l.games.items;
  few : length l.games.items ≤ 3 * l.index;
}
