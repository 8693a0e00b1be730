use Rattle.command_line.proofs.declaration.serve_command.Goals as goal

pub returns : goal.returns
returns c =
    let with_disk = c.argument.ensures _ _ c.new.ensures c.disk_argument.ensures in
    let with_port = c.argument-2.ensures _ _ with_disk c.port_argument.ensures in
    c.argument-3.ensures _ _ with_port c.count_argument.ensures
