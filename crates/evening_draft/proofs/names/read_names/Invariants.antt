use Rattle.std.proofs.Common.{◌-◌, List, Result}
use Rattle.std.specs.Str.Lines.{lines}
use Rattle.evening_draft.specs.declared.names_refused.NamesFault.{NamesFault}
use Rattle.evening_draft.specs.declared.wishes.PairNames.{PairNames}
use Rattle.evening_draft.specs.Names.{ReadsLines, ReadsNames}
use Rattle.evening_draft.proofs.names.read_names.Given as goal

abbrev pub invariant-loop-number : goal.invariant-loop-number
invariant-loop-number l =
    (result : Result (List PairNames) NamesFault) →
    ReadsLines (1001 - l.number) l.number l.pairs.items (lines l.rest) result → ReadsNames (lines l.fn.text) result
