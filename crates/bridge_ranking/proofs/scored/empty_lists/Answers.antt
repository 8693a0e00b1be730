use Rattle.std.proofs.Common.{◌+◌, ◌++◌, ◌∷◌, [], ℕ, ℤ, List, map, length, sym, ap, ◌∙◌, arith}
use Rattle.std.specs.List.{range_with_len}
use Rattle.std.proofs.lemmas.List.{length-map, map-append}
use Rattle.std.proofs.lemmas.List.FromFn.{length-map-range_with_len, map-range_with_len_more}
use Rattle.arrayvec.specs.ArrayVec.{ArrayVec}
use Rattle.bridge_ranking.proofs.scored.empty_lists.Goals as goal

abbrev items : ArrayVec ℤ → List ℤ
items scores = scores.items

abbrev nothing : ℕ → List ℤ
nothing board = []

pub push-requires : goal.push-requires
push-requires c =
    let count = sym (length-map c.loop.lists.items items) ∙ ap length c.loop.invariant.lists ∙ length-map-range_with_len nothing 1 c.loop.counter in
    (omega arith, omega (arith, count, c.loop-test.true))

pub loop-preserved : goal.loop-preserved
loop-preserved c = record {
  lists =
      ap (map items) c.push.ensures.items
      ∙ map-append items c.loop.lists.items (c.new.result ∷ [])
      ∙ ap (λ ls. ls ++ c.new.result.items ∷ []) c.loop.invariant.lists
      ∙ ap (λ scores. map nothing (range_with_len 1 c.loop.counter) ++ scores ∷ []) c.new.ensures
      ∙ sym (map-range_with_len_more nothing 1 c.loop.counter (c.loop.counter + 1) (omega arith));
}
