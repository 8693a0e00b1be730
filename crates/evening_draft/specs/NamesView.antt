-- What contracts see of a list that was read.
use Rattle.std.specs.Prelude.{List, Result, Ok, Err}
use Rattle.arrayvec.specs.ArrayVec.{ArrayVec}
use Rattle.evening_draft.specs.declared.names_refused.NamesFault.{NamesFault}
use Rattle.evening_draft.specs.declared.wishes.PairNames.{PairNames}

-- the pairs of the list, or its fault
abbrev pub names_seen : Result (ArrayVec PairNames) NamesFault → Result (List PairNames) NamesFault
names_seen (Ok pairs) = Ok pairs.items
names_seen (Err fault) = Err fault
