use Rattle.results_object.specs.Plays.{call_data}
use Rattle.results_object.proofs.Lists.{one_more}
use Rattle.results_object.proofs.course.call_values.Goals as goal

pub loop-call-preserved : goal.loop-call-preserved
loop-call-preserved c =
    one_more call_data c.args.calls.now c.loop-call.call-index c.call-item.result c.loop-call.list.items c.push.new.list.items c.in_ok-value.value
    c.loop-call-test.true c.call-item.is c.loop-call.invariant c.in_ok-value.ensures c.in_ok-push.ensures.ok
