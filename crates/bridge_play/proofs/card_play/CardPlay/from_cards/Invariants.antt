use Rattle.std.proofs.Common.{◌≡◌, take}
use Rattle.bridge_play.specs.CardPlay.{played}
use Rattle.bridge_play.specs.Legal.{IsLegal}
use Rattle.bridge_play.proofs.card_play.CardPlay.from_cards.Given as goal

abbrev pub invariant-loop-card : goal.invariant-loop-card
invariant-loop-card l = record {
  so_far : l.play ≡ played l.deal l.fn.contract (take l.card-index l.cards);
  legal : IsLegal l.deal l.fn.contract (take l.card-index l.cards);
}
