use Rattle.command_line.proofs.evening_declaration.slips_command.Goals as goal

pub returns : goal.returns
returns c =
    let with_config = c.argument.ensures _ _ c.new.ensures c.config_argument.ensures in
    let with_names = c.argument-2.ensures _ _ with_config c.names_option.ensures in
    let with_url = c.argument-3.ensures _ _ with_names c.url_argument.ensures in
    c.argument-4.ensures _ _ with_url c.text_argument.ensures
