use Rattle.bridge_pbn.specs.Games.{game_lines_by}
use Rattle.std.specs.Option.{option_copied}
use Rattle.bridge_pbn.proofs.Joined.{game_after}
use Rattle.bridge_pbn.proofs.game.new_game.Goals as goal

pub returns : goal.returns
returns c =
    rw (c.push_game.ensures, c.push_gap.ensures.lines, c.new-text.ensures)
    (game_after c.args.begun (game_lines_by c.args.config.now c.args.row c.args.board c.args.deal.now c.args.found.now.outcome c.args.found.now.auction.now.calls (option_copied c.args.found.now.play)))
