use Rattle.evening_commands.proofs.drafting.date_of.Goals as goal

pub returns-in-Some-clause-date : goal.returns-in-Some-clause-date
returns-in-Some-clause-date c = rw c.as_secs.ensures at c.in-Some.ensures.date
