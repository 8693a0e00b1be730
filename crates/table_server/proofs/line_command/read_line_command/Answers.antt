use Rattle.table_server.proofs.CommandLaws.{reads_one, reads_none}
use Rattle.table_server.proofs.line_command.read_line_command.Goals as goal

pub returns-in-Some-clause-only : goal.returns-in-Some-clause-only
returns-in-Some-clause-only c = λ other stated. reads_one c.args.line.now c.in-Some.command other c.in-Some.ensures stated

pub returns-in-None-clause-none : goal.returns-in-None-clause-none
returns-in-None-clause-none c = λ command stated. reads_none c.args.line.now command c.in-None.ensures stated
