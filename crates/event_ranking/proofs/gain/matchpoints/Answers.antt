use Rattle.std.proofs.Common.{◌≡◌, sum_by, take, drop, length, ◌-◌, ◌+◌, get_or, pos, ℤ, ap, ◌∙◌, rules}
use Rattle.std.proofs.lemmas.Int.{to_z-of_z}
use mir.Syntax.{w32}
use mir.Val.{SFits, of_z, to_z}
use Rattle.bridge_score.specs.Comparison.{matchpoints_against}
use Rattle.bridge_score.proofs.Sums.{sum_by-others}
use Rattle.event_ranking.proofs.gain.matchpoints.Goals as goal

pub returns-clause-value : goal.returns-clause-value
returns-clause-value c =
    let scores = c.args.scores.now in
    let own = get_or scores c.args.index (pos 0) in
    let fits : SFits w32 own = search rules in
    let own_is : to_z w32 (of_z w32 own) ≡ own = to_z-of_z w32 own fits in
    sum_by-others (matchpoints_against own) scores c.args.index _ _
    (c.matchpoints_over.ensures.value ∙ ap (λ (a : ℤ). sum_by (matchpoints_against a) (take c.args.index scores)) own_is)
    (c.matchpoints_over-2.ensures.value
    ∙ ap (λ (a : ℤ). sum_by (matchpoints_against a) (take (length scores - (c.args.index + 1)) (drop (c.args.index + 1) scores))) own_is)
