use Rattle.std.proofs.Common.{◌≡◌, take, drop, length, ◌-◌, ◌+◌, ◌+ℤ◌, get_or, pos, ℤ, ap, ◌∙◌, sym, arith, rules}
use Rattle.std.proofs.lemmas.Int.{ints, to_z-of_z}
use Rattle.std.proofs.lemmas.List.{length-take, length-drop}
use mir.Syntax.{w32}
use mir.Val.{SFits, of_z, to_z}
use Rattle.bridge_score.specs.Comparison.{int_sum_by, imps_against}
use Rattle.bridge_score.proofs.Sums.{int_sum_by-others, added_both}
use Rattle.event_ranking.proofs.gain.cross_imps.Goals as goal

pub returns-clause-value : goal.returns-clause-value
returns-clause-value c =
    let scores = c.args.scores.now in
    let own = get_or scores c.args.index (pos 0) in
    let fits : SFits w32 own = search rules in
    let own_is : to_z w32 (of_z w32 own) ≡ own = to_z-of_z w32 own fits in
    let before_fits : SFits w32 c.imps_over.result = search rules in
    let after_fits : SFits w32 c.imps_over-2.result = search rules in
    let earlier = length-take c.args.index scores in
    let later = length-take (length scores - (c.args.index + 1)) (drop (c.args.index + 1) scores) in
    let sum_fits : SFits w32 (c.imps_over.result +ℤ c.imps_over-2.result) =
    omega (arith, ints, earlier, later, c.imps_over.ensures.least, c.imps_over.ensures.most, c.imps_over-2.ensures.least, c.imps_over-2.ensures.most) in
    added_both _ _ _ before_fits after_fits sum_fits
    (sym (int_sum_by-others (imps_against own) scores c.args.index _ _
    (c.imps_over.ensures.value ∙ ap (λ (a : ℤ). int_sum_by (imps_against a) (take c.args.index scores)) own_is)
    (c.imps_over-2.ensures.value
    ∙ ap (λ (a : ℤ). int_sum_by (imps_against a) (take (length scores - (c.args.index + 1)) (drop (c.args.index + 1) scores))) own_is)))

pub returns-clause-least : goal.returns-clause-least
returns-clause-least c =
    let scores = c.args.scores.now in
    let earlier = length-take c.args.index scores in
    let later = length-take (length scores - (c.args.index + 1)) (drop (c.args.index + 1) scores) in
    let rest = length-drop (c.args.index + 1) scores in
    omega (
      arith,
      ints,
      earlier,
      later,
      rest,
      c.imps_over.ensures.least,
      c.imps_over.ensures.most,
      c.imps_over-2.ensures.least,
      c.imps_over-2.ensures.most,
    )
