use Rattle.command_line.proofs.declaration.plan_command.Goals as goal

pub returns : goal.returns
returns c =
    let with_config = c.argument.ensures _ _ c.new.ensures c.config_argument.ensures in
    c.argument-2.ensures _ _ with_config c.names_option.ensures
