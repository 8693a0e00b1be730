use Rattle.std.proofs.Common.{◌≡◌, ◌%◌, length, arith}
use Rattle.bridge_play.proofs.NextTrick.{winner_leads}
use Rattle.bridge_play.proofs.trick.next_leader.Goals as goal

pub returns : goal.returns
returns c =
    let cards = c.args.cards.now in
    let whole : length cards % 4 ≡ 0 = omega arith in
    let leads = winner_leads c.args.contract.now cards c.requires.some whole in
    cc (leads, c.clockwise.ensures, c.winning_index.ensures.index, c.split_at.ensures.back, c.requires.led)
