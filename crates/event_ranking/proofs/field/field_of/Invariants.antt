use Rattle.std.proofs.Common.{take}
use Rattle.event_ranking.specs.OneField.{IsField}
use Rattle.event_ranking.proofs.field.field_of.Given as goal

abbrev pub invariant-loop-index : goal.invariant-loop-index
invariant-loop-index l = IsField (take l.index l.sections)
