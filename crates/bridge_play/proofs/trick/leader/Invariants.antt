use Rattle.std.proofs.Common.{◌≡◌}
use Rattle.bridge_play.specs.Trick.{leader_of}
use Rattle.bridge_play.proofs.trick.leader.Given as goal

abbrev pub invariant-loop-earlier : goal.invariant-loop-earlier
invariant-loop-earlier l = l.leader ≡ leader_of l.contract l.cards l.earlier
