use Rattle.std.proofs.Common.{◌≡◌, ◌∙◌, ℕ, List, ◌∷◌, [], Bool, true, false, map, ap, subst}
use Rattle.line_text.specs.Streams.{stream, Written}
use Rattle.bridge_config.specs.declared.fields.PairFields.{PairFields}
use Rattle.bridge_config.specs.ConfigValue.{Pair, ConfigValue, pair_of}
use Rattle.evening_draft.specs.ShownNames.{shown_name}
use Rattle.evening_plan.specs.PairText.{pair_words}
use Rattle.evening_plan.proofs.ShownNames.{words_shown}
use Rattle.evening_plan.proofs.pair.write_words.Goals as goal

pub returns : goal.returns
returns g c =
    let pairs = ap (λ (k : ConfigValue). k.pairs) c.fields.ensures.fields in
    let name : (first : Bool) → shown_name c.args.names (map pair_of c.as_slice-pairs.result.now) c.args.pair first
    ≡ shown_name c.args.names c.args.config.now.pairs c.args.pair first =
    λ first. ap (λ (p : List PairFields). shown_name c.args.names (map pair_of p) c.args.pair first) c.as_slice-pairs.ensures.value
    ∙ ap (λ (p : List Pair). shown_name c.args.names p c.args.pair first) pairs in
    let words = c.as_slice.ensures.value ∙ c.pair_words-text.ensures
    ∙ ap (λ (n : List ℕ). pair_words c.args.pair (n ∷ c.shown_name-second.result.now ∷ [])) (c.shown_name-first.ensures.name ∙ name true)
    ∙ ap (λ (n : List ℕ). pair_words c.args.pair (shown_name c.args.names c.args.config.now.pairs c.args.pair true ∷ n ∷ []))
    (c.shown_name-second.ensures.name ∙ name false)
    ∙ words_shown c.args.names c.args.config.now.pairs c.args.pair in
    subst (λ (text : List ℕ). Written (stream g.W.Write.contents c.args.writer.now c.write_text.new.writer) text c.write_text.result)
    words c.write_text.ensures
