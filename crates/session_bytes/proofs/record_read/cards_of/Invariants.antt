use Rattle.std.proofs.Common.{◌≡◌, length, take}
use Rattle.session_bytes.proofs.record_read.cards_of.Given as goal

abbrev pub invariant-loop-number : goal.invariant-loop-number
invariant-loop-number l = record {
  so_far : l.cards.items ≡ take l.number-index l.numbers;
  room : length l.cards.items ≡ l.number-index;
}
