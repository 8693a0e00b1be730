use Rattle.event_ranking.specs.OneField.{CanCompareWith}
use Rattle.event_ranking.proofs.field.judge.Given as goal

abbrev pub invariant-loop-earlier : goal.invariant-loop-earlier
invariant-loop-earlier l = CanCompareWith l.sections l.index l.earlier
