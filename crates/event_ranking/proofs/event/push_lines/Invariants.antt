use Rattle.std.proofs.Common.{◌≡◌, ◌+◌, ◌++◌, [], map, get_or}
use Rattle.std.specs.List.{range_with_len}
use Rattle.event_ranking.specs.Joint.{joint, joint_line, of_section}
use Rattle.event_ranking.proofs.event.push_lines.Given as goal

abbrev pub invariant-loop-offset : goal.invariant-loop-offset
invariant-loop-offset l =
    l.lines.items ≡ l.fn.lines.items
    ++ map (λ pair. of_section (l.index + 1) (joint_line l.scoring (joint l.wide) (get_or l.wide l.index []) pair)) (range_with_len l.pairs.first l.offset)
