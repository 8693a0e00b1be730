use Rattle.std.proofs.Common.{◌-◌, ◌≤◌, take}
use Rattle.std.specs.Prelude.{flat_map}
use Rattle.std.specs.List.{range_with_len}
use Rattle.line_text.specs.Streams.{between, Takes}
use Rattle.event_pbn.specs.EventGames.{seen, game_on}
use Rattle.event_pbn.proofs.games.write_all.Given as goal

abbrev pub invariant-loop-number : goal.invariant-loop-number
invariant-loop-number g l = record {
  taken : Takes (between (g.W.Write.contents l.fn.writer) (g.W.Write.contents l.writer)) (flat_map (game_on (seen l.games)) (take (l.number - 1) (range_with_len 1 36)));
  least : 1 ≤ l.number;
}
