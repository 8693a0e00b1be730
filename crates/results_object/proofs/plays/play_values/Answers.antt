use Rattle.results_object.specs.Plays.{play_data}
use Rattle.results_object.proofs.Lists.{one_more}
use Rattle.results_object.proofs.plays.play_values.Goals as goal

pub loop-line-preserved : goal.loop-line-preserved
loop-line-preserved c =
    one_more (play_data c.args.session.now c.args.available) c.args.lines.now c.loop-line.line-index c.line-item.result c.loop-line.list.items c.push.new.list.items c.in_ok-value.value
    c.loop-line-test.true c.line-item.is c.loop-line.invariant c.in_ok-value.ensures c.in_ok-push.ensures.ok
