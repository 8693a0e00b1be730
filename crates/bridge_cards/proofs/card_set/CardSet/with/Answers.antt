use Rattle.std.proofs.Common.{◌*◌, ◌^◌, ◌%◌, ◌<◌, arith}
use Rattle.std.proofs.lemmas.Nat.{or_lt, one_shl, pow_below}
use Rattle.bridge_cards.proofs.CardBits.{has_card-or, has_card-one}
use Rattle.bridge_cards.proofs.card_set.CardSet.with.Goals as goal

pub invariant_of-result : goal.invariant_of-result
invariant_of-result c =
    let one : 1 * 2 ^ c.number.result % 2 ^ 64 < 2 ^ 52
    = omega (arith, one_shl c.number.result 64 (omega arith), pow_below c.number.result 52 c.number.ensures.range) in
    or_lt 52 c.self.inside.bits _ c.self.invariant one

pub returns : goal.returns
returns c =
    λ other.
    let both = has_card-or c.self.inside.bits (1 * 2 ^ c.number.result % 2 ^ 64) other in
    let one = has_card-one c.number.result other c.number.ensures.range in
    cc
