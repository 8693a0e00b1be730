use Rattle.command_line.proofs.declaration.auction_command.Goals as goal

pub returns : goal.returns
returns c =
    c.argument.ensures _ _ c.new.ensures c.board_argument.ensures
