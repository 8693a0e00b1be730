use Rattle.std.proofs.Common.{◌∙◌, ap, subst}
use Rattle.bridge_endings.specs.PlayedCards.{seen, IsMoment, after_card, won_in_all}
use Rattle.bridge_endings.proofs.Moments.{same_trump, won_few, next_no_better, next_cost}
use Rattle.bridge_endings.proofs.costs.play.Goals as goal

pub after-next-requires-clause-moment : goal.after-next-requires-clause-moment
after-next-requires-clause-moment c = same_trump c.args.search.now.trump c.args.moment.now c.requires.moment.1

pub won_in_all-won-requires-clause-moment : goal.won_in_all-won-requires-clause-moment
won_in_all-won-requires-clause-moment c = subst (λ t. IsMoment t c.after-next.result) c.requires.moment.1.trump_is c.after-next.ensures.moment

pub won_in_all-won-requires-clause-bounded : goal.won_in_all-won-requires-clause-bounded
won_in_all-won-requires-clause-bounded c =
    let trump = c.args.search.now.trump in
    let is = c.requires.moment.1 in
    let next_is = c.after-next.ensures.after ∙ ap (λ t. after_card t (seen c.args.moment.now) c.args.card) is.trump_is in
    let better = next_no_better trump c.args.moment.now c.after-next.result is c.args.card c.requires.legal next_is in
    c.bounds_after-known.ensures (won_in_all trump (seen c.after-next.result))
    (won_few trump c.after-next.result (subst (λ t. IsMoment t c.after-next.result) is.trump_is c.after-next.ensures.moment))
    (rw (c.side.ensures, c.turn-seat.ensures, c.requires.before) better)

pub returns-clause-moment : goal.returns-clause-moment
returns-clause-moment c =
    let is = c.requires.moment.1 in
    (subst (λ t. IsMoment t c.after-next.result) is.trump_is c.after-next.ensures.moment, c.after-next.ensures.after ∙ ap (λ t. after_card t (seen c.args.moment.now) c.args.card) is.trump_is)

pub returns-clause-better : goal.returns-clause-better
returns-clause-better c =
    let trump = c.args.search.now.trump in
    let is = c.requires.moment.1 in
    let next_is = c.after-next.ensures.after ∙ ap (λ t. after_card t (seen c.args.moment.now) c.args.card) is.trump_is in
    rw (c.requires.before, c.won_in_all-won.ensures.won) (next_no_better trump c.args.moment.now c.after-next.result is c.args.card c.requires.legal next_is)

pub returns-clause-cost : goal.returns-clause-cost
returns-clause-cost c =
    let trump = c.args.search.now.trump in
    let is = c.requires.moment.1 in
    let next_is = c.after-next.ensures.after ∙ ap (λ t. after_card t (seen c.args.moment.now) c.args.card) is.trump_is in
    next_cost trump c.args.moment.now c.after-next.result is c.args.card c.requires.legal next_is
    c.turn-seat.result c.side-2.result c.args.before c.won_in_all-won.result c.given_away.result c.turn-seat.ensures c.side-2.ensures c.requires.before c.won_in_all-won.ensures.won c.given_away.ensures
