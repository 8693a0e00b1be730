use Rattle.std.proofs.Common.{map, sym, ap, ◌∙◌, rules}
use Rattle.std.proofs.lemmas.Int.{to_z-of_z}
use mir.Syntax.{w32}
use mir.Val.{SFits}
use Rattle.bridge_cards.specs.declared.seat.Side.{Side}
use Rattle.bridge_ranking.specs.Ranking.{score_for, gain_at, available_of}
use Rattle.event_ranking.specs.Joint.{other_gain}
use Rattle.event_ranking.proofs.Mirror.{north_gain, east_gain}
use Rattle.event_ranking.proofs.gain.side_gain_at.Goals as goal

pub returns-in-NorthSouth-clause-value : goal.returns-in-NorthSouth-clause-value
returns-in-NorthSouth-clause-value c =
    let fits : SFits w32 c.gain_at-gain.result = search rules in
    to_z-of_z w32 c.gain_at-gain.result fits ∙ c.gain_at-gain.ensures.value
    ∙ sym (north_gain c.args.scoring c.args.scores.now c.args.index)
    ∙ ap (λ (side : Side). gain_at c.args.scoring (map (score_for side) c.args.scores.now) c.args.index) (sym c.in-NorthSouth.is)

pub returns-in-EastWest-clause-value : goal.returns-in-EastWest-clause-value
returns-in-EastWest-clause-value c =
    let scoring = c.args.scoring in
    let scores = c.args.scores.now in
    let gain = c.gain_at-gain.result in
    let fits : SFits w32 c.other_gain.result = search rules in
    let gain_fits : SFits w32 gain = search rules in
    to_z-of_z w32 c.other_gain.result fits ∙ c.other_gain.ensures.value
    ∙ ap (λ z. other_gain scoring z c.available_of.result) (to_z-of_z w32 gain gain_fits)
    ∙ ap (other_gain scoring gain) c.available_of.ensures.available
    ∙ ap (λ gain. other_gain scoring gain (available_of scores)) c.gain_at-gain.ensures.value
    ∙ sym (east_gain scoring scores c.args.index c.requires.index)
    ∙ ap (λ (side : Side). gain_at scoring (map (score_for side) scores) c.args.index) (sym c.in-EastWest.is)
