use Rattle.std.proofs.Common.{◌≡◌, ◌≤◌, length, take}
use Rattle.bridge_play.specs.CardPlay.{played}
use Rattle.bridge_play.proofs.card_play.CardPlay.first.Given as goal

abbrev pub invariant-loop-card : goal.invariant-loop-card
invariant-loop-card l = record {
  so_far : l.play ≡ played l.fn.self.hands l.fn.self.contract (take l.card-index l.front);
  few : length l.play.cards ≤ l.card-index;
}
