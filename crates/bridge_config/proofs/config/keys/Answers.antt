use Rattle.std.proofs.Common.{◌≡◌, ◌∙◌, ◌∷◌, ◌++◌, ◌+◌, [], List, ℕ, map, take, ap, sym, arith}
use Rattle.std.proofs.lemmas.List.{take_more, take_all}
use Rattle.bridge_config.specs.declared.fields.PairFields.{PairFields}
use Rattle.bridge_config.specs.ConfigValue.{keys_in, pair_of, key_number}
use Rattle.bridge_config.proofs.Keys.{keys_in-push}
use Rattle.bridge_config.proofs.config.keys.Goals as goal

pub loop-pair-preserved : goal.loop-pair-preserved
loop-pair-preserved c =
    let pairs = c.as_slice-pairs.result.now in
    let pair = c.pair-item.result in
    let front : List PairFields = take c.loop-pair.pair-index pairs in
    let more : take (c.loop-pair.pair-index + 1) pairs ≡ front ++ pair ∷ [] =
    take_more pairs c.loop-pair.pair-index pair c.loop-pair-test.true ∙ ap (λ (p : PairFields). front ++ p ∷ []) (sym c.pair-item.is) in
    record {
      keys = c.push_keys.ensures.keys
          ∙ ap (λ (keys : List ℕ). keys ++ map key_number pair.keys) c.loop-pair.invariant.keys
          ∙ ap (λ (keys : List ℕ). key_number c.args.fields.now.director ∷ keys) (sym (keys_in-push front pair) ∙ ap (λ (ps : List PairFields). keys_in (map pair_of ps)) (sym more));
      count = omega (arith, c.push_keys.ensures.count, c.loop-pair.invariant.count);
    }

pub returns : goal.returns
returns c =
    c.loop-pair.invariant.keys ∙ ap (λ (pairs : List PairFields). key_number c.args.fields.now.director ∷ keys_in (map pair_of pairs))
    (take_all c.loop-pair.pair-index c.as_slice-pairs.result.now (omega arith) ∙ c.as_slice-pairs.ensures.value)
