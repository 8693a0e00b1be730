use Rattle.std.proofs.Common.{◌≡◌, ◌≤◌, length}
use Rattle.rand_chacha.specs.ChaCha.{key_of}
use Rattle.evening_draft.specs.Keys.{drawn}
use Rattle.evening_draft.proofs.keys.draw.Given as goal

abbrev pub invariant-loop-index : goal.invariant-loop-index
invariant-loop-index l = record {
  at : l.generator ≡ record { key = key_of l.seed; stream = 0; word_pos = l._index };
  keys : l.keys.items ≡ drawn l.seed l._index;
  count : length l.keys.items ≤ l._index;
}
