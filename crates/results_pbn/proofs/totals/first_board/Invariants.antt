use Rattle.std.proofs.Common.{◌≡◌, take}
use Rattle.std.specs.Prelude.{fold}
use Rattle.results_pbn.specs.Totals.{lower}
use Rattle.results_pbn.proofs.totals.first_board.Given as goal

abbrev pub invariant-loop-play : goal.invariant-loop-play
invariant-loop-play l = l.board ≡ fold lower 37 (take l.play-index l.plays)
