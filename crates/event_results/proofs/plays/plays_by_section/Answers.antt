use Rattle.std.proofs.Common.{◌++◌, ◌∷◌, [], List, map, take, sym, ap, ◌∙◌, subst}
use Rattle.std.specs.Prelude.{All}
use Rattle.std.proofs.lemmas.List.{map_push, map_more}
use Rattle.std.proofs.lemmas.List.Elements.{All-push}
use Rattle.bridge_results.specs.declared.play.TablePlay.{TablePlay}
use Rattle.bridge_results.specs.Plays.{plays_of, HasTricksWithin}
use Rattle.event_results.proofs.plays.plays_by_section.Goals as goal

pub loop-session-preserved : goal.loop-session-preserved
loop-session-preserved c =
    let sections = c.args.sections.now in
    let i = c.loop-session.session-index in
    let session = c.session-item.result in
    let lists = c.loop-session.lists.items in
    let new = c.in_ok-plays_of.field-0 in
    let known = c.in_ok-plays_of.ensures.plays in
    let pushed = ap (map (λ plays. plays.items)) c.in_ok-push.ensures.items ∙ map_push (λ plays. plays.items) lists new in
    record {
      plays = pushed
          ∙ ap (λ ls. ls ++ new.items ∷ []) c.loop-session.invariant.plays
          ∙ ap (λ (plays : List TablePlay). map plays_of (take i sections) ++ plays ∷ []) (known ∙ ap plays_of c.session-item.is)
          ∙ sym (map_more plays_of sections i session c.loop-session-test.true);
      tricks = subst (All (All HasTricksWithin)) (sym pushed)
          (All-push (All HasTricksWithin) (map (λ plays. plays.items) lists) new.items c.loop-session.invariant.tricks (subst (All HasTricksWithin) (sym known) c.in_ok-plays_of.ensures.tricks));
    }
