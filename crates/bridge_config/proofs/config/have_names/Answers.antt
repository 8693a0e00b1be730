use Rattle.std.proofs.Common.{◌↔◌, Bool, true, false, List, All, IsTrue, map, rules, refl, subst, arith, ◌∙◌, ap}
use Rattle.std.specs.Prelude.{Any, MatchBool}
use Rattle.std.proofs.lemmas.List.{get_or-map, length-map}
use Rattle.std.proofs.lemmas.List.Elements.{All-map}
use Rattle.bridge_config.specs.declared.fields.PairFields.{PairFields}
use Rattle.bridge_config.specs.ConfigValue.{pair_of}
use Rattle.bridge_config.specs.Limits.{IsPair}
use Rattle.bridge_config.proofs.config.have_names.Goals as goal

-- where a pair lacks a name, not all pairs have theirs
one_lacks : (pairs : List PairFields) → Any (λ pair. ¬ IsPair (pair_of pair)) pairs → All IsPair (map pair_of pairs) → ⊥
one_lacks pairs (k, pair, within, is, lacks) all =
    lacks (subst IsPair (get_or-map pair_of pairs k pair (pair_of pair) within ∙ ap pair_of is) (all k (pair_of pair) (omega (arith, within, length-map pairs pair_of))))

-- the answer of `all` says whether each pair has its names
all_named : (pairs : List PairFields) (r : Bool) → MatchBool r (All (λ pair. IsPair (pair_of pair)) pairs) (Any (λ pair. ¬ IsPair (pair_of pair)) pairs) → IsTrue r ↔ All IsPair (map pair_of pairs)
all_named pairs true is = (λ _. All-map IsPair pair_of pairs is, λ _. refl)
all_named pairs false is = (λ e. absurd cc, λ all. absurd (one_lacks pairs is all))

pub returns : goal.returns
returns c = all_named c.args.pairs.now c.all.result (search rules)
