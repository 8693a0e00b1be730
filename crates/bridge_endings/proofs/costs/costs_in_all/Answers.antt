use Rattle.std.proofs.Common.{◌≡◌, ◌∙◌, ◌≤◌, true, rules, sym, ap, subst, arith}
use Rattle.std.proofs.lemmas.List.{at_drop_all}
use Rattle.bridge_endings.specs.PlayedCards.{seen, IsMoment, first_moment, may_play, after_card, after_cards, won_in_all, cost_of}
use Rattle.bridge_endings.proofs.GoingOn.{goes_on_again}
use Rattle.bridge_endings.proofs.Moments.{won_few, fewer_left, explained_more, after_more, legal_more, costs_more}
use Rattle.bridge_endings.proofs.costs.costs_in_all.Goals as goal

pub won_in_all-won-requires-clause-bounded : goal.won_in_all-won-requires-clause-bounded
won_in_all-won-requires-clause-bounded c =
    c.all_bounds.ensures (won_in_all c.args.search.now.trump (seen c.first-moment.result)) (won_few c.args.search.now.trump c.first-moment.result c.first-moment.ensures.moment)

pub loop-card-preserved : goal.loop-card-preserved
loop-card-preserved c =
    let trump = c.args.search.now.trump in
    let cards = c.args.cards.now in
    let index = c.loop-card.card-index in
    let card = c.card-item.result in
    let here = c.loop-card.moment in
    let next = c.play-after.result.moment in
    let same = c.loop-card.invariant.later.trump in
    let may : may_play (seen here) card ≡ true = search rules in
    let next_is : seen next ≡ after_card trump (seen here) card = c.play-after.ensures.moment.1 ∙ ap (λ t. after_card t (seen here) card) same in
    let won_is : c.play-after.result.won ≡ won_in_all trump (seen next) = c.play-after.ensures.won ∙ ap (λ t. won_in_all t (seen next)) same in
    let cost_is : c.play-after.result.cost ≡ cost_of trump (seen here) card = c.play-after.ensures.cost ∙ ap (λ t. cost_of t (seen here) card) same in
    record {
      moment = subst (λ t. IsMoment t next) same c.play-after.ensures.moment.0;
      won = won_is;
      after = after_more trump cards index card c.loop-card-test.true c.card-item.is (seen here) (seen next) next_is _ c.loop-card.invariant.after;
      legal = legal_more trump cards index card c.loop-card-test.true c.card-item.is (seen here) (seen next) next_is _ may c.loop-card.invariant.legal;
      costs = costs_more trump cards index card c.loop-card-test.true c.card-item.is (seen here) (seen next) next_is _ c.loop-card.costs.items c.push.new.self.items c.play-after.result.cost cost_is c.push.ensures.items c.loop-card.invariant.costs;
      explained = explained_more trump (seen here) card (won_in_all trump (first_moment c.args.hands.now c.args.declarer)) c.loop-card.won c.play-after.result.won c.loop-card.costs.items c.push.new.self.items c.play-after.result.cost
          c.loop-card.invariant.won (won_is ∙ ap (won_in_all trump) next_is) c.play-after.ensures.better cost_is c.push.ensures.items c.loop-card.invariant.explained;
      room = omega (arith, c.push.ensures.len, c.loop-card.invariant.room, fewer_left trump here next c.loop-card.invariant.moment card may next_is);
      later = goes_on_again c.args.search.now c.loop-card.search c.play-after.new.search c.loop-card.invariant.later c.play-after.ensures.later;
      table = c.play-after.ensures.table;
    }

pub returns-clause-few : goal.returns-clause-few
returns-clause-few c =
    let trump = c.args.search.now.trump in
    let last = c.loop-card.moment in
    subst (λ m. won_in_all trump m ≤ 13)
    (sym (at_drop_all (after_cards trump (seen last)) c.args.cards.now c.loop-card.card-index c.loop-card-test.false) ∙ c.loop-card.invariant.after)
    (won_few trump last c.loop-card.invariant.moment)
