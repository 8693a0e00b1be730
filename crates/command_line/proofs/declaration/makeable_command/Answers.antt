use Rattle.command_line.proofs.declaration.makeable_command.Goals as goal

pub returns : goal.returns
returns c =
    let with_file = c.argument.ensures _ _ c.new.ensures c.file_argument.ensures in
    c.argument-2.ensures _ _ with_file c.pbn_argument.ensures
