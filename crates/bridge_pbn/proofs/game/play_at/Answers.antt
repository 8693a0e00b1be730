use Rattle.std.proofs.lemmas.Bool.{and_parts}
use Rattle.std.proofs.Common.{◌≡◌, ◌+◌, ◌-◌, ◌*◌, ◌≤◌, ◌<◌, ℕ, zero, suc, arith, ap}
use Rattle.std.specs.Prelude.{nat_le}
use Rattle.std.proofs.lemmas.Bool.{leb-true}
use Rattle.std.proofs.Math.Nat.{suc-mul}
use Rattle.bridge_config.specs.ConfigValue.{ConfigValue}
use Rattle.bridge_config.specs.Limits.{IsConfiguration}
use Rattle.bridge_pbn.proofs.game.play_at.Goals as goal

-- a set has its boards behind those of the sets before it
set_long : (set boards : ℕ) → set * boards ≤ (set - 1) * boards + boards
set_long zero boards = omega arith
set_long (suc n) boards =
    let before : suc n - 1 ≡ n = omega arith in
    rw before (omega (arith, suc-mul n boards))

-- at most three boards are in a set
few_boards : (configuration : ConfigValue) → IsConfiguration configuration → configuration.boards ≤ 3
few_boards configuration is =
    leb-true configuration.boards 3 (and_parts (nat_le 1 configuration.boards) (nat_le configuration.boards 3) is.boards).1

pub unwrap-requires-3 : goal.unwrap-requires-3
unwrap-requires-3 c =
    let boards : ℕ = c.fields.result.now.boards in
    let same : boards ≡ c.args.config.now.boards = ap (λ (k : ConfigValue). k.boards) c.fields.ensures.fields in
    let few : boards ≤ 3 = omega (arith, same, few_boards c.args.config.now c.fields.ensures.limits) in
    let long = set_long c.args.row.set boards in
    let after : c.boards_before-before.result < c.from-number.result = omega (arith, c.if-number-before.false) in
    let within : c.from-number.result ≤ c.last_board.result = omega (arith, c.if-number-last_board.false) in
    c.new-3.ensures.valid.1 (omega (arith, after), omega (arith, within, long, few, c.boards_before-before.ensures, c.last_board.ensures))
