use Rattle.std.proofs.Common.{length, ap, sym, ◌∙◌, subst, arith, lit<}
use Rattle.std.proofs.lemmas.List.{length-append}
use Rattle.std.proofs.lemmas.Str.{encode_ascii}
use Rattle.bridge_cards.specs.Deal.{IsHand, hand_at}
use Rattle.bridge_cards.specs.DealText.{SpellsDeal}
use Rattle.bridge_cards.proofs.DealLemmas.{deal_once}
use Rattle.bridge_cards.proofs.PrintedDeal.{length-hand_text_dealt, deal_text_of, deal_text_states, length-deal_text}
use Rattle.bridge_cards.proofs.deal_text.print_deal.Goals as goal

pub print_hand-requires : goal.print_hand-requires
print_hand-requires c =
    let n0 = ap length c.clear.ensures in
    let n1 = simp length-append at (ap length (c.push.ensures.ascii (omega arith))) in
    let n2 = simp length-append at (ap length (c.push-2.ensures.ascii (lit< tt))) in
    let h1 = length-hand_text_dealt c.hand.result c.hand.ensures.thirteen in
    omega (arith, n0, n1, n2, h1)

pub push-requires-3 : goal.push-requires-3
push-requires-3 c =
    let n0 = ap length c.clear.ensures in
    let n1 = simp length-append at (ap length (c.push.ensures.ascii (omega arith))) in
    let n2 = simp length-append at (ap length (c.push-2.ensures.ascii (lit< tt))) in
    let n3 = simp length-append at (ap length (c.print_hand.ensures.text)) in
    let h1 = length-hand_text_dealt c.hand.result c.hand.ensures.thirteen in
    let space = ap length (encode_ascii 32 (lit< tt)) in
    (lit< tt, omega (arith, space, n0, n1, n2, n3, h1))

pub print_hand-requires-2 : goal.print_hand-requires-2
print_hand-requires-2 c =
    let n0 = ap length c.clear.ensures in
    let n1 = simp length-append at (ap length (c.push.ensures.ascii (omega arith))) in
    let n2 = simp length-append at (ap length (c.push-2.ensures.ascii (lit< tt))) in
    let n3 = simp length-append at (ap length (c.print_hand.ensures.text)) in
    let n4 = simp length-append at (ap length (c.push-3.ensures.ascii (lit< tt))) in
    let h1 = length-hand_text_dealt c.hand.result c.hand.ensures.thirteen in
    let h2 = length-hand_text_dealt c.hand-2.result c.hand-2.ensures.thirteen in
    omega (arith, n0, n1, n2, n3, n4, h1, h2)

pub push-requires-4 : goal.push-requires-4
push-requires-4 c =
    let n0 = ap length c.clear.ensures in
    let n1 = simp length-append at (ap length (c.push.ensures.ascii (omega arith))) in
    let n2 = simp length-append at (ap length (c.push-2.ensures.ascii (lit< tt))) in
    let n3 = simp length-append at (ap length (c.print_hand.ensures.text)) in
    let n4 = simp length-append at (ap length (c.push-3.ensures.ascii (lit< tt))) in
    let n5 = simp length-append at (ap length (c.print_hand-2.ensures.text)) in
    let h1 = length-hand_text_dealt c.hand.result c.hand.ensures.thirteen in
    let h2 = length-hand_text_dealt c.hand-2.result c.hand-2.ensures.thirteen in
    let space = ap length (encode_ascii 32 (lit< tt)) in
    (lit< tt, omega (arith, space, n0, n1, n2, n3, n4, n5, h1, h2))

pub print_hand-requires-3 : goal.print_hand-requires-3
print_hand-requires-3 c =
    let n0 = ap length c.clear.ensures in
    let n1 = simp length-append at (ap length (c.push.ensures.ascii (omega arith))) in
    let n2 = simp length-append at (ap length (c.push-2.ensures.ascii (lit< tt))) in
    let n3 = simp length-append at (ap length (c.print_hand.ensures.text)) in
    let n4 = simp length-append at (ap length (c.push-3.ensures.ascii (lit< tt))) in
    let n5 = simp length-append at (ap length (c.print_hand-2.ensures.text)) in
    let n6 = simp length-append at (ap length (c.push-4.ensures.ascii (lit< tt))) in
    let h1 = length-hand_text_dealt c.hand.result c.hand.ensures.thirteen in
    let h2 = length-hand_text_dealt c.hand-2.result c.hand-2.ensures.thirteen in
    let h3 = length-hand_text_dealt c.hand-3.result c.hand-3.ensures.thirteen in
    omega (arith, n0, n1, n2, n3, n4, n5, n6, h1, h2, h3)

pub push-requires-5 : goal.push-requires-5
push-requires-5 c =
    let n0 = ap length c.clear.ensures in
    let n1 = simp length-append at (ap length (c.push.ensures.ascii (omega arith))) in
    let n2 = simp length-append at (ap length (c.push-2.ensures.ascii (lit< tt))) in
    let n3 = simp length-append at (ap length (c.print_hand.ensures.text)) in
    let n4 = simp length-append at (ap length (c.push-3.ensures.ascii (lit< tt))) in
    let n5 = simp length-append at (ap length (c.print_hand-2.ensures.text)) in
    let n6 = simp length-append at (ap length (c.push-4.ensures.ascii (lit< tt))) in
    let n7 = simp length-append at (ap length (c.print_hand-3.ensures.text)) in
    let h1 = length-hand_text_dealt c.hand.result c.hand.ensures.thirteen in
    let h2 = length-hand_text_dealt c.hand-2.result c.hand-2.ensures.thirteen in
    let h3 = length-hand_text_dealt c.hand-3.result c.hand-3.ensures.thirteen in
    let space = ap length (encode_ascii 32 (lit< tt)) in
    (lit< tt, omega (arith, space, n0, n1, n2, n3, n4, n5, n6, n7, h1, h2, h3))

pub print_hand-requires-4 : goal.print_hand-requires-4
print_hand-requires-4 c =
    let n0 = ap length c.clear.ensures in
    let n1 = simp length-append at (ap length (c.push.ensures.ascii (omega arith))) in
    let n2 = simp length-append at (ap length (c.push-2.ensures.ascii (lit< tt))) in
    let n3 = simp length-append at (ap length (c.print_hand.ensures.text)) in
    let n4 = simp length-append at (ap length (c.push-3.ensures.ascii (lit< tt))) in
    let n5 = simp length-append at (ap length (c.print_hand-2.ensures.text)) in
    let n6 = simp length-append at (ap length (c.push-4.ensures.ascii (lit< tt))) in
    let n7 = simp length-append at (ap length (c.print_hand-3.ensures.text)) in
    let n8 = simp length-append at (ap length (c.push-5.ensures.ascii (lit< tt))) in
    let h1 = length-hand_text_dealt c.hand.result c.hand.ensures.thirteen in
    let h2 = length-hand_text_dealt c.hand-2.result c.hand-2.ensures.thirteen in
    let h3 = length-hand_text_dealt c.hand-3.result c.hand-3.ensures.thirteen in
    let h4 = length-hand_text_dealt c.hand-4.result c.hand-4.ensures.thirteen in
    omega (arith, n0, n1, n2, n3, n4, n5, n6, n7, n8, h1, h2, h3, h4)

at_text : goal.returns-clause-text
at_text c =
    rw (c.print_hand-4.ensures.text, c.push-5.ensures.ascii (lit< tt), c.print_hand-3.ensures.text, c.push-4.ensures.ascii (lit< tt), c.print_hand-2.ensures.text, c.push-3.ensures.ascii (lit< tt), c.print_hand.ensures.text, c.push-2.ensures.ascii (lit< tt), c.push.ensures.ascii (omega arith), c.clear.ensures)
    (deal_text_of c.args.deal.now c.args.first _ _ _ _ _ (c.from.ensures ∙ c.letter.ensures.letter) c.hand.ensures.hand
    (c.hand-2.ensures.hand ∙ ap (hand_at c.args.deal.now) c.clockwise.ensures)
    (c.hand-3.ensures.hand ∙ ap (hand_at c.args.deal.now) c.clockwise-2.ensures)
    (c.hand-4.ensures.hand ∙ ap (hand_at c.args.deal.now) c.clockwise-3.ensures))

pub returns-clause-text : goal.returns-clause-text
returns-clause-text c = at_text c

pub returns-clause-length : goal.returns-clause-length
returns-clause-length c =
    ap length (at_text c)
    ∙ length-deal_text c.args.deal.now c.args.first (subst IsHand c.hand.ensures.hand c.hand.ensures.thirteen)
    (subst IsHand (c.hand-2.ensures.hand ∙ ap (hand_at c.args.deal.now) c.clockwise.ensures) c.hand-2.ensures.thirteen)
    (subst IsHand (c.hand-3.ensures.hand ∙ ap (hand_at c.args.deal.now) c.clockwise-2.ensures) c.hand-3.ensures.thirteen)
    (subst IsHand (c.hand-4.ensures.hand ∙ ap (hand_at c.args.deal.now) c.clockwise-3.ensures) c.hand-4.ensures.thirteen)

pub returns-clause-states : goal.returns-clause-states
returns-clause-states c =
    subst (SpellsDeal c.args.deal.now) (sym (at_text c)) (deal_text_states c.args.deal.now c.args.first c.hand.ensures.deal)

pub returns-clause-only : goal.returns-clause-only
returns-clause-only c =
    λ hands spelled. deal_once hands c.args.deal.now c.print_hand-4.new.text.bytes spelled (returns-clause-states c)
