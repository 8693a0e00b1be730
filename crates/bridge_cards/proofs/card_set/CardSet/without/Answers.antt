use Rattle.std.proofs.Common.{◌*◌, ◌^◌, ◌%◌, arith}
use Rattle.bridge_cards.proofs.CardBits.{has_card-and_not, has_card-one}
use Rattle.bridge_cards.proofs.card_set.CardSet.without.Goals as goal

pub returns : goal.returns
returns c =
    λ other.
    let both = has_card-and_not c.self.inside.bits (1 * 2 ^ c.number.result % 2 ^ 64) other c.self.invariant (omega arith) in
    let one = has_card-one c.number.result other c.number.ensures.range in
    cc
