use Rattle.command_line.proofs.evening_declaration.draft_command.Goals as goal

pub returns : goal.returns
returns c =
    let with_names = c.argument.ensures _ _ c.new.ensures c.names_argument.ensures in
    let with_movement = c.argument-2.ensures _ _ with_names c.movement_argument.ensures in
    let with_boards = c.argument-3.ensures _ _ with_movement c.boards_argument.ensures in
    let with_scoring = c.argument-4.ensures _ _ with_boards c.scoring_argument.ensures in
    let with_event = c.argument-5.ensures _ _ with_scoring c.event_argument.ensures in
    let with_site = c.argument-6.ensures _ _ with_event c.site_argument.ensures in
    let with_date = c.argument-7.ensures _ _ with_site c.date_argument.ensures in
    c.argument-8.ensures _ _ with_date c.seed_argument.ensures
