use Rattle.command_line.proofs.declaration.format_command.Goals as goal

pub returns : goal.returns
returns c =
    let with_disk = c.argument.ensures _ _ c.new.ensures c.disk_argument.ensures in
    c.argument-2.ensures _ _ with_disk c.config_argument.ensures
