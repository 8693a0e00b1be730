use Rattle.command_line.proofs.evening_declaration.evening_command.Goals as goal

pub returns : goal.returns
returns c =
    let with_names = c.argument.ensures _ _ c.new.ensures c.names_argument.ensures in
    let with_disk = c.argument-2.ensures _ _ with_names c.disk_argument.ensures in
    let with_port = c.argument-3.ensures _ _ with_disk c.port_argument.ensures in
    let with_minutes = c.argument-4.ensures _ _ with_port c.minutes_argument.ensures in
    let with_movement = c.argument-5.ensures _ _ with_minutes c.movement_argument.ensures in
    let with_boards = c.argument-6.ensures _ _ with_movement c.boards_argument.ensures in
    let with_scoring = c.argument-7.ensures _ _ with_boards c.scoring_argument.ensures in
    let with_event = c.argument-8.ensures _ _ with_scoring c.event_argument.ensures in
    let with_site = c.argument-9.ensures _ _ with_event c.site_argument.ensures in
    let with_date = c.argument-10.ensures _ _ with_site c.date_argument.ensures in
    let with_seed = c.argument-11.ensures _ _ with_date c.seed_argument.ensures in
    let with_address = c.argument-12.ensures _ _ with_seed c.address_argument.ensures in
    let with_name = c.argument-13.ensures _ _ with_address c.name_argument.ensures in
    c.argument-14.ensures _ _ with_name c.open_boards_argument.ensures
