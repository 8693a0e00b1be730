use Rattle.std.proofs.Common.{map, drop}
use Rattle.std.specs.List.{AllZip}
use Rattle.bridge_table.specs.Kept.{plain_of}
use Rattle.bridge_session.specs.HasAll.{HasPlay}
use Rattle.bridge_session.proofs.HasAllLaws.{IsStill}
use Rattle.bridge_session.proofs.containing.have_tables.Given as goal

abbrev pub invariant-loop-our : goal.invariant-loop-our
invariant-loop-our l = IsStill (AllZip (AllZip HasPlay) (map (λ table. map plain_of table.items) l.fn.ours) (map (λ table. map plain_of table.items) l.fn.theirs))
    (AllZip (AllZip HasPlay) (map (λ table. map plain_of table.items) (drop l.our-index l.fn.ours)) (map (λ table. map plain_of table.items) l.rest))
