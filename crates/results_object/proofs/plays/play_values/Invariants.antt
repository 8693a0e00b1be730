use Rattle.std.proofs.Common.{◌≡◌, take, map}
use Rattle.serde_json.specs.View.{view}
use Rattle.results_object.specs.Plays.{play_data}
use Rattle.results_object.proofs.plays.play_values.Given as goal

abbrev pub invariant-loop-line : goal.invariant-loop-line
invariant-loop-line l = map view l.list.items ≡ map (play_data l.session l.available) (take l.line-index l.lines)
