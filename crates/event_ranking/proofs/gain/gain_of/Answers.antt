use Rattle.std.proofs.Common.{◌≡◌, ℕ, ℤ, List, Option, sym, ap, ◌∙◌, rules}
use Rattle.std.specs.Prelude.{position}
use Rattle.std.specs.Ordering.{int_eq}
use Rattle.std.proofs.lemmas.Int.{to_z-of_z}
use mir.Syntax.{w32}
use mir.Val.{SFits}
use Rattle.event_ranking.proofs.Mirror.{gain_found, gain_missed}
use Rattle.event_ranking.proofs.gain.gain_of.Goals as goal

-- what the search found
found : (own given : ℤ) (scores : List ℤ) (result : Option ℕ) → given ≡ own → result ≡ position (int_eq given) scores → position (int_eq own) scores ≡ result
found own given scores result same is = ap (λ (z : ℤ). position (int_eq z) scores) (sym same) ∙ sym is

pub returns-in-Some-clause-value : goal.returns-in-Some-clause-value
returns-in-Some-clause-value c =
    let fits : SFits w32 c.side_gain_at.result = search rules in
    to_z-of_z w32 c.side_gain_at.result fits ∙ c.side_gain_at.ensures.value
    ∙ sym (gain_found c.args.scoring c.args.side c.args.scores.now c.args.own c.in-Some.index (found c.args.own _ c.args.scores.now c.index_of_score.result (to_z-of_z w32 c.args.own c.ranges.own) c.index_of_score.ensures ∙ c.in-Some.is))

pub returns-in-None-clause-value : goal.returns-in-None-clause-value
returns-in-None-clause-value c = sym (gain_missed c.args.scoring c.args.side c.args.scores.now c.args.own (found c.args.own _ c.args.scores.now c.index_of_score.result (to_z-of_z w32 c.args.own c.ranges.own) c.index_of_score.ensures ∙ c.in-None.is))
