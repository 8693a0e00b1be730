use Rattle.std.proofs.Common.{◌≡◌, ◌+◌, ◌++◌, ◌∷◌, length, take}
use Rattle.session_bytes.proofs.record_bytes.put_cards.Given as goal

abbrev pub invariant-loop-card : goal.invariant-loop-card
invariant-loop-card l = record {
  bytes : l.part.items ≡ l.fn.part.items ++ length l.cards ∷ take l.card-index l.cards;
  room : length l.part.items ≡ length l.fn.part.items + 1 + l.card-index;
}
