use Rattle.club_commands.proofs.evenings.make_plan.Goals as goal

pub returns-in-None : goal.returns-in-None
returns-in-None g c = rw c.in-None.is c.run_plan.ensures

pub returns-in-Some : goal.returns-in-Some
returns-in-Some g c = rw c.in-Some.is (c.run_named_plan.result, c.run_named_plan.ensures, c.ended.ensures)
