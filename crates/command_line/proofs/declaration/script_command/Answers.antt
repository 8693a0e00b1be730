use Rattle.command_line.proofs.declaration.script_command.Goals as goal

pub returns : goal.returns
returns c =
    c.argument.ensures _ _ c.new.ensures c.disk_argument.ensures
