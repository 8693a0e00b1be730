use Rattle.std.proofs.Common.{◌≡◌, ℕ, ◌<◌, get_or, length}
use Rattle.table_server.specs.LineWords.{hex_byte}
use Rattle.table_server.proofs.line_words.seed_bytes.Given as goal

abbrev pub invariant-loop-index : goal.invariant-loop-index
invariant-loop-index l = record {
  count : length l.seed ≡ 32;
  bytes : (k : ℕ) → k < l.index → get_or l.seed k 0 ≡ hex_byte l.word k;
}
