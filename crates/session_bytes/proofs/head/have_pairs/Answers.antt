use Rattle.std.proofs.Common.{◌≡◌, ℕ, List, true, false, sym, ap, ◌∙◌, refl, arith}
use Rattle.bridge_config.specs.declared.fields.PairFields.{PairFields}
use Rattle.bridge_config.specs.ConfigValue.{pair_of}
use Rattle.session_bytes.specs.Parts.{pair_part}
use Rattle.session_bytes.specs.Reading.{items_of}
use Rattle.session_bytes.proofs.HeadLaws.{same_more, same_at}
use Rattle.session_bytes.proofs.head.have_pairs.Goals as goal

-- the part of a pair as the code keeps it
abbrev part_of : PairFields → List ℕ
part_of pair = pair_part (pair_of pair)

pub returns-then-not-is_part_of : goal.returns-then-not-is_part_of
returns-then-not-is_part_of c =
    let pair = c.index-pairs-index.result in
    let part = c.index-parts-index.result in (
      λ told. absurd (let no : false ≡ true = told in cc),
      λ same.
          let here = same_at part_of items_of c.args.pairs.now c.args.parts.now c.loop-index.index pair part c.loop-index-test.true c.if-parts-pairs.false same in
          let there : part_of pair ≡ items_of part = ap part_of c.index-pairs-index.is ∙ here ∙ ap items_of (sym c.index-parts-index.is) in
          c.if-not-is_part_of.ensures.1 (there ∙ sym c.as_slice.ensures.value),
    )

pub loop-index-preserved : goal.loop-index-preserved
loop-index-preserved c =
    let pair = c.index-pairs-index.result in
    let part = c.index-parts-index.result in
    let written = c.if-not-is_part_of.ensures.0 refl ∙ c.as_slice.ensures.value in
    same_more part_of items_of c.args.pairs.now c.args.parts.now c.loop-index.index pair part c.loop-index-test.true (omega (arith, c.loop-index-test.true, c.if-parts-pairs.false)) c.loop-index.invariant
    (ap part_of (sym c.index-pairs-index.is) ∙ written ∙ ap items_of c.index-parts-index.is)
