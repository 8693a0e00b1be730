use Rattle.std.proofs.Common.{◌≡◌, ◌+◌, ◌-◌, ◌∙◌, take, arith, subst, sym}
use Rattle.std.specs.Prelude.{flat_map}
use Rattle.std.specs.List.{range_with_len}
use Rattle.std.proofs.lemmas.List.{take_all}
use Rattle.std.proofs.lemmas.List.FromFn.{length-range_with_len, get_or-range_with_len}
use Rattle.line_text.specs.Streams.{between, Takes}
use Rattle.page_layout.proofs.Walk.{one_taken, one_failed}
use Rattle.evening_slips.specs.Slips.{pair_text}
use Rattle.evening_slips.proofs.slips.write_first_pairs.Goals as goal

pub returns-in_err-write_pair : goal.returns-in_err-write_pair
returns-in_err-write_pair g c =
    let n = c.args.pairs in
    let i = c.loop-pair.pair - 1 in
    let there = sym (get_or-range_with_len 1 n i c.loop-pair.pair (omega arith) ∙ omega arith) in
    one_failed (pair_text c.args.sheet.now c.args.config.now c.args.names) (range_with_len 1 n) i c.loop-pair.pair
    (g.W.Write.contents c.args.writer.now) (g.W.Write.contents c.loop-pair.writer) (g.W.Write.contents c.write_pair.new.writer) c.from_residual.result
    c.loop-pair.invariant.taken c.in_err-write_pair.ensures c.from_residual.ensures.0 there (omega (arith, length-range_with_len 1 n))

pub loop-pair-preserved : goal.loop-pair-preserved
loop-pair-preserved g c =
    let n = c.args.pairs in
    let i = c.loop-pair.pair - 1 in
    let there = sym (get_or-range_with_len 1 n i c.loop-pair.pair (omega arith) ∙ omega arith) in
    let next : i + 1 ≡ c.loop-pair.pair + 1 - 1 = omega arith in record {
      taken = subst (λ k. Takes (between (g.W.Write.contents c.args.writer.now) (g.W.Write.contents c.write_pair.new.writer))
          (flat_map (pair_text c.args.sheet.now c.args.config.now c.args.names) (take k (range_with_len 1 n)))) next
          (one_taken (pair_text c.args.sheet.now c.args.config.now c.args.names) (range_with_len 1 n) i c.loop-pair.pair
          (g.W.Write.contents c.args.writer.now) (g.W.Write.contents c.loop-pair.writer) (g.W.Write.contents c.write_pair.new.writer)
          (omega (arith, length-range_with_len 1 n)) there c.loop-pair.invariant.taken c.in_ok-write_pair.ensures);
      least = omega arith;
    }

pub returns : goal.returns
returns g c =
    let n = c.args.pairs in
    let whole : take (c.loop-pair.pair - 1) (range_with_len 1 n) ≡ range_with_len 1 n =
    take_all (c.loop-pair.pair - 1) (range_with_len 1 n) (omega (arith, length-range_with_len 1 n)) in
    subst (λ numbers. Takes (between (g.W.Write.contents c.args.writer.now) (g.W.Write.contents c.loop-pair.writer))
    (flat_map (pair_text c.args.sheet.now c.args.config.now c.args.names) numbers)) whole c.loop-pair.invariant.taken
