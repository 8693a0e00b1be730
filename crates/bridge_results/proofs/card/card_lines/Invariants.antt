use Rattle.std.proofs.Common.{◌≡◌, take}
use Rattle.bridge_results.specs.ScoreCard.{card_lines}
use Rattle.bridge_results.proofs.card.card_lines.Given as goal

abbrev pub invariant-loop-play : goal.invariant-loop-play
invariant-loop-play l = l.lines.items ≡ card_lines l.scoring l.games (take l.play-index l.plays) l.pair
