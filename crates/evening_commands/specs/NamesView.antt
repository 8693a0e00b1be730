-- What contracts see of a list of names that was read.
use Rattle.std.specs.Prelude.{List, Result, Ok, Err}
use Rattle.arrayvec.specs.ArrayVec.{ArrayVec}
use Rattle.evening_draft.specs.declared.wishes.PairNames.{PairNames}
use Rattle.evening_commands.specs.declared.fault.EveningFault.{EveningFault}

-- the pairs of the list, or the fault
abbrev pub list_seen : Result (ArrayVec PairNames) EveningFault → Result (List PairNames) EveningFault
list_seen (Ok names) = Ok names.items
list_seen (Err fault) = Err fault
