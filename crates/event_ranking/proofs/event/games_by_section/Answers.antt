use Rattle.std.proofs.Common.{◌++◌, ◌∷◌, [], List, map, take, sym, ap, ◌∙◌, subst}
use Rattle.std.specs.Prelude.{All}
use Rattle.std.proofs.lemmas.List.{map_push, map_more}
use Rattle.std.proofs.lemmas.List.Elements.{All-push}
use Rattle.bridge_ranking.specs.declared.game.Game.{Game}
use Rattle.bridge_ranking.specs.Ranking.{games_of}
use Rattle.event_ranking.specs.Wide.{AreOfSection}
use Rattle.event_ranking.proofs.event.games_by_section.Goals as goal

pub loop-session-preserved : goal.loop-session-preserved
loop-session-preserved c =
    let sections = c.args.sections.now in
    let i = c.loop-session.session-index in
    let session = c.session-item.result in
    let lists = c.loop-session.lists.items in
    let new = c.in_ok-games_of.field-0 in
    let known = c.in_ok-games_of.ensures.games in
    let pushed = ap (map (λ games. games.items)) c.in_ok-push.ensures.items ∙ map_push (λ games. games.items) lists new in
    record {
      games = pushed
          ∙ ap (λ ls. ls ++ new.items ∷ []) c.loop-session.invariant.games
          ∙ ap (λ (games : List Game). map games_of (take i sections) ++ games ∷ []) (known ∙ ap games_of c.session-item.is)
          ∙ sym (map_more games_of sections i session c.loop-session-test.true);
      each = subst (All AreOfSection) (sym pushed)
          (All-push AreOfSection (map (λ games. games.items) lists) new.items c.loop-session.invariant.each (subst AreOfSection (sym known) c.in_ok-games_of.ensures.section));
    }
