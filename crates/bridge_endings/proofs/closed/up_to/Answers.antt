use Rattle.std.proofs.Common.{◌+◌, ◌-◌, nat_le, ap, ◌∙◌, arith}
use Rattle.std.proofs.lemmas.Nat.{one_shl}
use Rattle.bridge_cards.specs.CardSet.{has_card}
use Rattle.bridge_endings.proofs.MovedCards.{ones_few, ones_some, up_to_bits}
use Rattle.bridge_endings.proofs.closed.up_to.Goals as goal

pub overflow_sub-bits : goal.overflow_sub-bits
overflow_sub-bits c = omega (arith, one_shl (c.number.result + 1) 64 (omega arith), ones_some c.number.result)

pub returns-in-Some : goal.returns-in-Some
returns-in-Some c = λ other.
    let bits = one_shl (c.number.result + 1) 64 (omega arith) in
    ap (λ n. has_card n other) (c.in-Some.ensures.value ∙ ap (λ n. n - 1) bits) ∙ up_to_bits c.number.result other ∙ ap (nat_le other) c.number.ensures.number

pub returns-in-None : goal.returns-in-None
returns-in-None c = λ other.
    let bits = one_shl (c.number.result + 1) 64 (omega arith) in
    let never = c.in-None.ensures.valid.1 (omega (arith, bits, ones_few c.number.result c.number.ensures.range)) in
    cc
