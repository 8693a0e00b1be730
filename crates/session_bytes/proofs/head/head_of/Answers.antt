use Rattle.std.proofs.Common.{map}
use Rattle.session_bytes.specs.Reading.{items_of}
use Rattle.session_bytes.proofs.HeadLaws.{not_parts, not_head}
use Rattle.session_bytes.proofs.head.head_of.Goals as goal

pub returns-in_err-head-clause-other : goal.returns-in_err-head-clause-other
returns-in_err-head-clause-other c = rw c.from_residual.ensures (not_parts c.args.first.now c.args.second.now (map items_of c.args.rest.now) c.in_err-head.ensures.none)

pub returns-else-is_head-clause-other : goal.returns-else-is_head-clause-other
returns-else-is_head-clause-other c =
    not_head c.args.first.now c.args.second.now (map items_of c.args.rest.now) c.in_ok-head.head.config c.in_ok-head.head.round c.in_ok-head.ensures.config c.in_ok-head.ensures.round
    (λ is. let told = c.if-is_head.ensures.1 is in absurd cc)
