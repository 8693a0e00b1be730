use Rattle.std.proofs.Common.{map, drop}
use Rattle.std.specs.List.{AllZip}
use Rattle.bridge_table.specs.Kept.{plain_of}
use Rattle.bridge_session.specs.HasAll.{HasPlay}
use Rattle.bridge_session.proofs.HasAllLaws.{IsStill}
use Rattle.bridge_session.proofs.containing.have_plays.Given as goal

abbrev pub invariant-loop-our : goal.invariant-loop-our
invariant-loop-our l = IsStill (AllZip HasPlay (map plain_of l.fn.ours) (map plain_of l.fn.theirs))
    (AllZip HasPlay (map plain_of (drop l.our-index l.fn.ours)) (map plain_of l.rest))
