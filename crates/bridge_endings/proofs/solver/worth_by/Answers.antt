use Rattle.std.proofs.Common.{◌≡◌, ◌*◌, ◌≤◌, [], ◌∙◌, arith}
use Rattle.bridge_endings.specs.Worth.{dealt, worth_with}
use Rattle.bridge_endings.proofs.GoingOn.{told_in_the_end, unwrapped}
use Rattle.bridge_endings.proofs.Owners.{ending_dealt_out}
use Rattle.bridge_endings.proofs.Root.{asked}
use Rattle.bridge_endings.proofs.solver.worth_by.Goals as goal

pub returns-clause-worth : goal.returns-clause-worth
returns-clause-worth c =
    unwrapped (λ worth. worth ≡ worth_with c.args.search.now.trump (4 * c.tricks-tricks.result) (dealt c.hands-hands.result) c.leader.result []) c.tricks_won.result c.unwrap.result c.unwrap.ensures c.tricks_won.ensures.worth
    ∙ asked c.args.ending.now c.hands-hands.result c.args.search.now.trump c.leader.result c.tricks-tricks.result c.hands-hands.ensures.hands c.requires.trump c.leader.ensures c.tricks-tricks.ensures.tricks

pub tricks_won-requires-clause-dealt : goal.tricks_won-requires-clause-dealt
tricks_won-requires-clause-dealt c = ending_dealt_out c.hands-hands.result (rw c.hands-hands.ensures.hands c.hands-hands.ensures.ending)

pub unwrap-requires : goal.unwrap-requires
unwrap-requires c = told_in_the_end c.args.search.now.limit c.tricks_won.result c.requires.endless c.tricks_won.ensures.ended

pub returns-clause-few : goal.returns-clause-few
returns-clause-few c =
    let few = unwrapped (λ worth. worth ≤ c.tricks-tricks.result) c.tricks_won.result c.unwrap.result c.unwrap.ensures c.tricks_won.ensures.few in
    omega (arith, few, c.tricks-tricks.ensures.few)
