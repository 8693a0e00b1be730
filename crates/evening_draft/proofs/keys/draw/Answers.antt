use Rattle.std.proofs.Common.{length, ap, ◌∙◌, arith}
use Rattle.evening_draft.proofs.DrawnKeys.{next_at, drawn_more, none_drawn}
use Rattle.evening_draft.proofs.keys.draw.Goals as goal

pub loop-index-init : goal.loop-index-init
loop-index-init c = record {
  at = c.from_seed-generator.ensures;
  keys = c.new-keys.ensures ∙ none_drawn c.args.seed.now;
  count = omega (arith, ap length c.new-keys.ensures);
}

pub loop-index-preserved : goal.loop-index-preserved
loop-index-preserved c =
    let next = next_at c.args.seed.now c.loop-index._index c.next_word.result c.loop-index.generator c.next_word.new.self
    c.loop-index-test.true c.loop-index.invariant.at c.next_word.ensures in
    record {
      at = next.1;
      keys = drawn_more c.args.seed.now c.loop-index._index c.next_word.result c.loop-index.keys.items c.push_key.new.keys.items
          c.loop-index.invariant.keys next.0 c.push_key.ensures.keys;
      count = omega (arith, c.push_key.ensures.count, c.loop-index.invariant.count);
    }
