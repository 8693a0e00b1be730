use Rattle.std.proofs.Common.{◌≤◌, Bool, true, false, cond, ap, sym, ◌∙◌, arith}
use Rattle.std.proofs.lemmas.Bool.{and_parts}
use Rattle.std.proofs.lemmas.List.{take_all}
use Rattle.bridge_cards.specs.CardSet.{has_card}
use Rattle.bridge_cards.specs.Deal.{holders, NoneTwice}
use Rattle.bridge_cards.proofs.DealTests.{each_once, not_each_once, common_in_deck, held_twice}
use Rattle.bridge_cards.proofs.deal.are_disjoint.Goals as goal

one_at_most : (b : Bool) → cond b 1 0 ≤ 1
one_at_most true = omega arith
one_at_most false = omega arith

none_twice : (c : goal.After-loop-hand) → NoneTwice c.args.hands.now
none_twice c =
    λ card.
    let all = take_all c.loop-hand.hand-index c.args.hands.now (omega arith) in
    let counted = sym (ap (λ hands. holders hands card) all) ∙ c.loop-hand.invariant.0 card in
    omega (arith, counted, one_at_most (has_card c.loop-hand.dealt card))

pub returns-clause-cases : goal.returns-clause-cases
returns-clause-cases c = none_twice c

pub returns-clause-test : goal.returns-clause-test
returns-clause-test c = sym (each_once c.args.hands.now (none_twice c))

pub returns-then-not-is_empty-clause-test : goal.returns-then-not-is_empty-clause-test
returns-then-not-is_empty-clause-test c =
    let common = c.if-not-is_empty.ensures.cards in
    let dealt = c.loop-hand.dealt in
    let hand = c.hand-item.result in
    let both = and_parts (has_card dealt common.0) (has_card hand common.0) (sym (c.intersection.ensures common.0) ∙ common.1) in
    let before = c.loop-hand.invariant.0 common.0 ∙ ap (λ b. cond b 1 0) both.0 in
    let twice = held_twice c.args.hands.now c.loop-hand.hand-index hand common.0 (omega arith) c.hand-item.is before both.1 in
    let inside = common_in_deck dealt hand c.intersection.result common.0 c.loop-hand.invariant.1 (c.intersection.ensures common.0) common.1 in
    sym (not_each_once c.args.hands.now common.0 inside twice)
