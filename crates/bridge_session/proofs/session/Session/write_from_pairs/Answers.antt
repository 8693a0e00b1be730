use Rattle.std.proofs.Common.{◌≡◌, ◌<◌, List, length, map, sym, ap, subst, ◌∙◌, arith}
use Rattle.std.specs.Prelude.{slice_index_or}
use Rattle.std.proofs.lemmas.List.{length-map, get_or-map}
use Rattle.bridge_config.specs.ConfigValue.{ConfigValue, Pair, pair_of}
use Rattle.session_rules.specs.State.{SessionValue}
use Rattle.session_store.specs.declared.disk_format.DiskFormat.TheVariants.{Two}
use Rattle.session_bytes.specs.Parts.{pair_part}
use Rattle.session_bytes.proofs.PartIndexes.{index_of_pair}
use Rattle.bridge_session.proofs.session.Session.write_from_pairs.Goals as goal

pub returns-then-index-pairs : goal.returns-then-index-pairs
returns-then-index-pairs c =
    let s = c.args.self.now in
    let listed = c.as_slice-pairs.result.now in
    let pair = c.index-pairs-index.result in
    let index = c.args.index in
    let are : map pair_of listed ≡ s.configuration.pairs = ap (map pair_of) c.as_slice-pairs.ensures.value
    ∙ ap (λ (k : ConfigValue). k.pairs) c.fields.ensures.fields ∙ ap (λ (t : SessionValue). t.configuration.pairs) c.self.view_is in
    let inside : index < length (map pair_of listed) = omega (arith, c.if-index-pairs.true, length-map listed pair_of) in
    let within = subst (λ (ps : List Pair). index < length ps) are inside in
    let here : slice_index_or s.configuration.pairs index (pair_of pair) ≡ pair_of pair
    = ap (λ (ps : List Pair). slice_index_or ps index (pair_of pair)) (sym are)
    ∙ get_or-map pair_of listed index pair (pair_of pair) c.if-index-pairs.true ∙ ap pair_of (sym c.index-pairs-index.is) in
    c.write_pair.ensures ∙ ap pair_part (sym here) ∙ sym (index_of_pair Two s index (pair_of pair) within)
