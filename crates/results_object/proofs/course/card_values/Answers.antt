use Rattle.results_object.specs.Plays.{card_data}
use Rattle.results_object.proofs.Lists.{one_more}
use Rattle.results_object.proofs.course.card_values.Goals as goal

pub loop-card-preserved : goal.loop-card-preserved
loop-card-preserved c =
    one_more card_data c.args.cards.now c.loop-card.card-index c.card-item.result c.loop-card.list.items c.push.new.list.items c.in_ok-value.value
    c.loop-card-test.true c.card-item.is c.loop-card.invariant c.in_ok-value.ensures c.in_ok-push.ensures.ok
