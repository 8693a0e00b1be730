use Rattle.std.proofs.Common.{◌≡◌, take, map}
use Rattle.std.specs.List.{enumerate_from}
use Rattle.serde_json.specs.View.{view}
use Rattle.event_object.specs.Sections.{section_data}
use Rattle.event_object.proofs.sections.section_values.Given as goal

abbrev pub invariant-loop-index : goal.invariant-loop-index
invariant-loop-index l = map view l.list.items ≡ map section_data (take l.index (enumerate_from 1 l.sections))
