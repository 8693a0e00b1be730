use Rattle.std.proofs.Common.{◌-◌, ◌/◌, length, arith}
use Rattle.bridge_play.proofs.BothSides.{tricks_won-both}
use Rattle.bridge_play.proofs.trick.next_won.Goals as goal

pub overflow_add-result : goal.overflow_add-result
overflow_add-result c =
    let cards = c.args.cards.now in
    omega (arith, c.requires.won, tricks_won-both c.args.contract.now cards ((length cards - 1) / 4))
