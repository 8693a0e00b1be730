use Rattle.std.specs.Str.Lines.{lines}
use Rattle.makeable_deals.proofs.LinesRead.{LeadsOn}
use Rattle.makeable_deals.proofs.read.read_deals.Given as goal

abbrev pub invariant-loop-number : goal.invariant-loop-number
invariant-loop-number l = LeadsOn l.number l.heading l.deals.items (lines l.rest) (lines l.fn.text)
