use Rattle.std.proofs.Common.{◌≡◌, take, map}
use Rattle.serde_json.specs.View.{view}
use Rattle.results_object.specs.Plays.{card_data}
use Rattle.results_object.proofs.course.card_values.Given as goal

abbrev pub invariant-loop-card : goal.invariant-loop-card
invariant-loop-card l = map view l.list.items ≡ map card_data (take l.card-index l.cards)
