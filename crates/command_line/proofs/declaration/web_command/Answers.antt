use Rattle.command_line.proofs.declaration.web_command.Goals as goal

pub returns : goal.returns
returns c =
    let with_disk = c.argument.ensures _ _ c.new.ensures c.disk_argument.ensures in
    let with_port = c.argument-2.ensures _ _ with_disk c.port_argument.ensures in
    let with_minutes = c.argument-3.ensures _ _ with_port c.minutes_argument.ensures in
    let with_address = c.argument-4.ensures _ _ with_minutes c.address_argument.ensures in
    let with_name = c.argument-5.ensures _ _ with_address c.name_argument.ensures in
    let with_open_boards = c.argument-6.ensures _ _ with_name c.open_boards_argument.ensures in
    let with_names = c.argument-7.ensures _ _ with_open_boards c.names_option.ensures in
    c.argument-8.ensures _ _ with_names c.copy_argument.ensures
