use Rattle.std.proofs.Common.{◌∷◌, ◌++◌, [], length, refl, sym, ap, ◌∙◌, arith, lit<}
use Rattle.std.proofs.lemmas.List.{append_assoc, append-nil, length-append}
use Rattle.bridge_cards.specs.CardSet.{cards_of, has_card}
use Rattle.bridge_cards.proofs.CardCounts.{cards_of-lowest, cards_of-empty, card_count-without, length-cards_of, card_count_le}
use Rattle.bridge_cards.proofs.CardSetLaws.{has_card-zero}
use Rattle.bridge_cards.proofs.card_set.CardSet.cards.Goals as goal

pub push-requires : goal.push-requires
push-requires c =
    let lowest = c.in-Some in
    let front = cards_of-lowest c.loop-card.rest c.without-rest.result lowest.card lowest.ensures.card.0 lowest.ensures.card.1 lowest.ensures.lowest c.without-rest.ensures in
    let whole = ap length (sym (ap (λ l. c.loop-card.cards.items ++ l) front) ∙ c.loop-card.invariant) in
    (lit< tt, omega (arith, whole, length-append c.loop-card.cards.items (lowest.card ∷ cards_of c.without-rest.result), length-cards_of c.args.self, card_count_le c.args.self))

pub loop-card-smaller : goal.loop-card-smaller
loop-card-smaller c =
    let lowest = c.in-Some in
    omega (arith, card_count-without c.loop-card.rest c.without-rest.result lowest.card lowest.ensures.card.0 lowest.ensures.card.1 c.without-rest.ensures)

pub loop-card-preserved : goal.loop-card-preserved
loop-card-preserved c =
    let lowest = c.in-Some in
    let front = cards_of-lowest c.loop-card.rest c.without-rest.result lowest.card lowest.ensures.card.0 lowest.ensures.card.1 lowest.ensures.lowest c.without-rest.ensures in
    ap (λ l. l ++ cards_of c.without-rest.result) c.push.ensures.items
    ∙ append_assoc c.loop-card.cards.items (lowest.card ∷ []) (cards_of c.without-rest.result)
    ∙ sym (ap (λ l. c.loop-card.cards.items ++ l) front)
    ∙ c.loop-card.invariant

pub returns : goal.returns
returns c =
    let none = cards_of-empty c.loop-card.rest (λ card. ap (λ s. has_card s card) (c.in_default.ensures.none.0 refl) ∙ has_card-zero card) in
    sym (append-nil c.loop-card.cards.items) ∙ ap (λ l. c.loop-card.cards.items ++ l) (sym none) ∙ c.loop-card.invariant
