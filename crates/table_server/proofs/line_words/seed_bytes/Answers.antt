use Rattle.std.proofs.Common.{◌≡◌, ℕ, get_or, arith, below_more, length-set, ◌∙◌}
use Rattle.std.proofs.lemmas.List.{get_or-set_same, get_or-set_other}
use Rattle.std.proofs.Math.ListN.{set}
use Rattle.std.proofs.lemmas.List.FromFn.{fill_by_all}
use Rattle.table_server.specs.LineWords.{hex_byte}
use Rattle.table_server.proofs.line_words.seed_bytes.Goals as goal

pub loop-index-preserved : goal.loop-index-preserved
loop-index-preserved c =
    let before = c.loop-index.invariant in
    let seed = c.loop-index.seed in
    let index = c.loop-index.index in
    let is : ℕ → Type 0 = λ k. get_or (set seed index c.hex_byte.result) k 0 ≡ hex_byte c.args.word.now k in
    record {
      count = length-set seed index c.hex_byte.result ∙ before.count;
      bytes = below_more is index
          (λ k below. get_or-set_other seed index k c.hex_byte.result 0 (λ e. omega (arith, below, e)) ∙ before.bytes k below)
          (get_or-set_same seed index c.hex_byte.result 0 (omega arith) ∙ c.hex_byte.ensures);
    }

pub returns : goal.returns
returns c =
    let done = c.loop-index.invariant in
    fill_by_all (hex_byte c.args.word.now) c.loop-index.seed 32 0 done.count (λ k inside. done.bytes k (omega arith))
