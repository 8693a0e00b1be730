use Rattle.bridge_cards.proofs.TrickWinner.{winner_within, winner_wins}
use Rattle.bridge_cards.proofs.trick.winning_index.Goals as goal

pub returns-clause-within : goal.returns-clause-within
returns-clause-within c = rw (c.unwrap_or.ensures, c.winner.ensures) (winner_within c.args.trump c.args.trick.now c.requires)

pub returns-clause-wins : goal.returns-clause-wins
returns-clause-wins c = rw (c.unwrap_or.ensures, c.winner.ensures) (winner_wins c.args.trump c.args.trick.now c.requires)
