use Rattle.std.proofs.Common.{inr}
use Rattle.club_commands.proofs.run.run_words_with.Goals as goal

pub returns-in-Ok-clause-done : goal.returns-in-Ok-clause-done
returns-in-Ok-clause-done g c = λ is. (c.in-Ok.command, c.in-Ok.ensures.ok, rw is at c.run_command.ensures.ended)

pub returns-in-Ok-clause-fault : goal.returns-in-Ok-clause-fault
returns-in-Ok-clause-fault g c = λ is. inr (c.in-Ok.command, c.in-Ok.ensures.ok, rw is at c.run_command.ensures.ended)

pub returns-in-Ok-clause-no_session : goal.returns-in-Ok-clause-no_session
returns-in-Ok-clause-no_session g c = λ is. (c.in-Ok.command, c.in-Ok.ensures.ok, rw is at c.run_command.ensures.ended)
