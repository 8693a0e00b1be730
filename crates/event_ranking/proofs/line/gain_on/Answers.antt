use Rattle.std.proofs.Common.{ℤ, List, map, sym, ap, ◌∙◌, subst, rules}
use Rattle.std.proofs.lemmas.Int.{to_z-of_z}
use mir.Syntax.{w32}
use mir.Val.{SFits}
use Rattle.bridge_ranking.specs.Ranking.{score_for, gained, available_of}
use Rattle.bridge_ranking.specs.Gains.{IsGainWithin}
use Rattle.event_ranking.specs.Joint.{joint}
use Rattle.event_ranking.proofs.Joined.{mirrored, side_available}
use Rattle.event_ranking.proofs.line.gain_on.Goals as goal

pub returns : goal.returns
returns c =
    let scoring = c.args.scoring in
    let all = joint c.args.wide.now in
    let side = c.args.side in
    let board = c.args.game.board in
    let by = c.args.game.result in
    let value = c.gained.result in
    let fits : SFits w32 value = search rules in
    let same = to_z-of_z w32 value fits in
    record {
      value = same ∙ c.gained.ensures.value
          ∙ ap (λ (scores : List ℤ). gained scoring (map (score_for side) scores) side by) c.scores-scores.ensures.scores
          ∙ ap (λ (scores : List ℤ). gained scoring scores side by) (sym (mirrored all side board));
      available = c.available_of.ensures.available ∙ ap available_of c.scores-scores.ensures.scores ∙ side_available all side board;
      within = subst (λ z. IsGainWithin scoring z c.available_of.result) (sym same)
          (subst (IsGainWithin scoring value) (sym c.available_of.ensures.available) c.gained.ensures.within);
      most = c.available_of.ensures.most;
    }
