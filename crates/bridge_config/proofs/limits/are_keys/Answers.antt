use Rattle.std.proofs.Common.{◌∙◌, true, false, sym, refl, ap}
use Rattle.std.proofs.Math.Facts.{Fits-lt-pow}
use Rattle.std.proofs.lemmas.List.{drop_all}
use Rattle.bridge_config.specs.Limits.{are_distinct}
use Rattle.bridge_config.proofs.Keys.{are_distinct-drop, are_numbers, keys_told}
use Rattle.bridge_config.proofs.limits.are_keys.Goals as goal

pub returns-then-contains : goal.returns-then-contains
returns-then-contains c =
    let step = are_distinct-drop c.args.keys.now c.loop-index.index 0 c.loop-index-test.true in
    let twice = rw c.split_at.ensures.back at (sym c.if-contains.ensures.value) in
    keys_told c.args.keys.now false (sym (c.loop-index.invariant ∙ step ∙ rw twice refl)) (are_numbers c.args.keys.now (λ index. Fits-lt-pow (c.type_inv.keys index)))

pub returns : goal.returns
returns c =
    keys_told c.args.keys.now true (sym (c.loop-index.invariant ∙ ap are_distinct (drop_all c.loop-index.index c.args.keys.now c.loop-index-test.false)))
    (are_numbers c.args.keys.now (λ index. Fits-lt-pow (c.type_inv.keys index)))

pub loop-index-preserved : goal.loop-index-preserved
loop-index-preserved c =
    let step = are_distinct-drop c.args.keys.now c.loop-index.index 0 c.loop-index-test.true in
    let once = rw c.split_at.ensures.back at (sym c.if-contains.ensures.value) in
    c.loop-index.invariant ∙ step ∙ rw once refl
