use Rattle.session_pair.specs.Joining.{HasRowsOf}
use Rattle.session_pair.proofs.joining.first_lacking.Given as goal

abbrev pub invariant-loop-index : goal.invariant-loop-index
invariant-loop-index l = HasRowsOf l.ours l.theirs l.index
