use Rattle.std.proofs.Common.{length, ap, arith, rules, lit<}
use Rattle.std.proofs.lemmas.List.{append_assoc, length-append}
use Rattle.std.proofs.lemmas.Str.{encode_ascii}
use Rattle.bridge_cards.proofs.PrintLemmas.{hand_text_is, hand_text_short, length-hand_text_of_suits}
use Rattle.bridge_cards.proofs.deal_text.print_hand.Goals as goal

pub print_suit-requires : goal.print_suit-requires
print_suit-requires g c =
    let total = length-hand_text_of_suits c.args.hand in
    omega (arith, c.requires, total)

pub push-requires : goal.push-requires
push-requires g c =
    let total = length-hand_text_of_suits c.args.hand in
    let n1 = simp length-append at (ap length (c.print_suit.ensures)) in
    let dot = ap length (encode_ascii 46 (lit< tt)) in
    (search rules, omega (arith, c.requires, total, dot, n1))

pub print_suit-requires-2 : goal.print_suit-requires-2
print_suit-requires-2 g c =
    let total = length-hand_text_of_suits c.args.hand in
    let n1 = simp length-append at (ap length (c.print_suit.ensures)) in
    let n2 = simp length-append at (ap length (c.push.ensures.ascii (lit< tt))) in
    omega (arith, c.requires, total, n1, n2)

pub push-requires-2 : goal.push-requires-2
push-requires-2 g c =
    let total = length-hand_text_of_suits c.args.hand in
    let n1 = simp length-append at (ap length (c.print_suit.ensures)) in
    let n2 = simp length-append at (ap length (c.push.ensures.ascii (lit< tt))) in
    let n3 = simp length-append at (ap length (c.print_suit-2.ensures)) in
    let dot = ap length (encode_ascii 46 (lit< tt)) in
    (search rules, omega (arith, c.requires, total, dot, n1, n2, n3))

pub print_suit-requires-3 : goal.print_suit-requires-3
print_suit-requires-3 g c =
    let total = length-hand_text_of_suits c.args.hand in
    let n1 = simp length-append at (ap length (c.print_suit.ensures)) in
    let n2 = simp length-append at (ap length (c.push.ensures.ascii (lit< tt))) in
    let n3 = simp length-append at (ap length (c.print_suit-2.ensures)) in
    let n4 = simp length-append at (ap length (c.push-2.ensures.ascii (lit< tt))) in
    omega (arith, c.requires, total, n1, n2, n3, n4)

pub push-requires-3 : goal.push-requires-3
push-requires-3 g c =
    let total = length-hand_text_of_suits c.args.hand in
    let n1 = simp length-append at (ap length (c.print_suit.ensures)) in
    let n2 = simp length-append at (ap length (c.push.ensures.ascii (lit< tt))) in
    let n3 = simp length-append at (ap length (c.print_suit-2.ensures)) in
    let n4 = simp length-append at (ap length (c.push-2.ensures.ascii (lit< tt))) in
    let n5 = simp length-append at (ap length (c.print_suit-3.ensures)) in
    let dot = ap length (encode_ascii 46 (lit< tt)) in
    (search rules, omega (arith, c.requires, total, dot, n1, n2, n3, n4, n5))

pub print_suit-requires-4 : goal.print_suit-requires-4
print_suit-requires-4 g c =
    let total = length-hand_text_of_suits c.args.hand in
    let n1 = simp length-append at (ap length (c.print_suit.ensures)) in
    let n2 = simp length-append at (ap length (c.push.ensures.ascii (lit< tt))) in
    let n3 = simp length-append at (ap length (c.print_suit-2.ensures)) in
    let n4 = simp length-append at (ap length (c.push-2.ensures.ascii (lit< tt))) in
    let n5 = simp length-append at (ap length (c.print_suit-3.ensures)) in
    let n6 = simp length-append at (ap length (c.push-3.ensures.ascii (lit< tt))) in
    omega (arith, c.requires, total, n1, n2, n3, n4, n5, n6)

pub returns-clause-text : goal.returns-clause-text
returns-clause-text g c =
    rw (c.print_suit-4.ensures, c.push-3.ensures.ascii (lit< tt), c.print_suit-3.ensures, c.push-2.ensures.ascii (lit< tt), c.print_suit-2.ensures, c.push.ensures.ascii (lit< tt), c.print_suit.ensures, hand_text_is)
    (simp append_assoc)

pub returns-clause-short : goal.returns-clause-short
returns-clause-short g c = hand_text_short c.args.hand
