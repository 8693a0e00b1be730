use Rattle.std.proofs.Common.{◌≡◌, length, map, take, sym, ap, ◌∙◌, refl, arith}
use Rattle.std.proofs.lemmas.List.{length-map}
use Rattle.std.proofs.lemmas.Simd.{map-map}
use Rattle.bridge_config.specs.ConfigValue.{ConfigValue, pair_of}
use Rattle.bridge_movement.specs.declared.shape.Shape.{Shape}
use Rattle.session_bytes.specs.Parts.{pair_part}
use Rattle.session_bytes.specs.Reading.{items_of}
use Rattle.session_bytes.proofs.head.is_head.Goals as goal

pub returns : goal.returns
returns c =
    let config = c.args.head.now.config in
    let kept = c.as_slice.result.now in
    let rest = map items_of c.args.rest.now in
    let pairs : map pair_of kept ≡ config.pairs = ap (map pair_of) c.as_slice.ensures.value ∙ ap (λ (k : ConfigValue). k.pairs) c.fields-fields.ensures.fields in
    let parts : map (λ pair. pair_part (pair_of pair)) kept ≡ map pair_part config.pairs = sym (map-map pair_part pair_of kept) ∙ ap (map pair_part) pairs in
    let long : length kept ≡ length config.pairs = sym (length-map kept pair_of) ∙ ap length pairs in
    let rounds = ap (λ (shape : Shape). shape.rounds) c.shape-last.ensures.shape ∙ ap (λ (k : ConfigValue). k.movement.shape.rounds) c.fields-fields.ensures.fields in (
      λ told. record {
        round = (omega (arith, c.if-head-lt1.false), omega (arith, c.if-last-head.false, rounds));
        heading = c.if-not-has_heading.ensures.0 refl;
        pairs = sym parts ∙ c.have_pairs.ensures.0 told ∙ ap (λ n. take n rest) long;
      },
      λ is. c.have_pairs.ensures.1 (parts ∙ is.pairs ∙ ap (λ n. take n rest) (sym long)),
    )
