use Rattle.std.proofs.Common.{◌-◌, ◌*◌, ◌≤◌, arith}
use Rattle.std.proofs.lemmas.Nat.{mul-le}
use Rattle.board_replies.proofs.known_play.board_at.Goals as goal

pub unwrap-requires : goal.unwrap-requires
unwrap-requires c =
    let few : (c.args.set - 1) * c.args.boards ≤ 11 * 3 = mul-le (c.args.set - 1) c.args.boards 11 3 (omega (arith, c.requires.set)) c.requires.boards in
    c.new.ensures.valid.1 (omega (arith, c.requires.index.0), omega (arith, few, c.boards_before.ensures, c.requires.index.1))
