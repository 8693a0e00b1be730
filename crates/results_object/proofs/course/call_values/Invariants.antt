use Rattle.std.proofs.Common.{◌≡◌, take, map}
use Rattle.serde_json.specs.View.{view}
use Rattle.results_object.specs.Plays.{call_data}
use Rattle.results_object.proofs.course.call_values.Given as goal

abbrev pub invariant-loop-call : goal.invariant-loop-call
invariant-loop-call l = map view l.list.items ≡ map call_data (take l.call-index l.calls)
