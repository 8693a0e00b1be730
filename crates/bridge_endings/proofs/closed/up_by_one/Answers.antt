use Rattle.std.proofs.Common.{◌*◌, ◌∙◌, ap, subst, arith}
use Rattle.bridge_cards.specs.CardSet.{has_card, IsCardSet}
use Rattle.bridge_endings.proofs.MovedCards.{up_bits, up_shift, few_up}
use Rattle.bridge_endings.proofs.closed.up_by_one.Goals as goal

pub returns-in-Some : goal.returns-in-Some
returns-in-Some c = λ card.
    ap (λ n. has_card n card) (c.in-Some.ensures.value ∙ up_shift c.bits.result c.bits.ensures.range ∙ ap (λ n. n * 2) c.bits.ensures.value) ∙ up_bits c.args.cards card

pub returns-in-None : goal.returns-in-None
returns-in-None c =
    let few = few_up c.args.cards (subst IsCardSet c.bits.ensures.value c.bits.ensures.range) c.requires in
    let never = c.in-None.ensures.valid.1 (omega (arith, up_shift c.bits.result c.bits.ensures.range, c.bits.ensures.value, few)) in
    cc
