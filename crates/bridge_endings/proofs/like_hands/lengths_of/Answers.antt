use Rattle.std.proofs.Common.{◌≡◌, ◌∙◌, ap, arith}
use Rattle.std.proofs.lemmas.Grind.{get_or_default_zero}
use Rattle.bridge_cards.specs.declared.seat.Seat.TheVariants.{North, East, South, West}
use Rattle.bridge_cards.specs.Deal.{hand_at}
use Rattle.bridge_endings.specs.Left.{lengths_in}
use Rattle.bridge_endings.proofs.like_hands.lengths_of.Goals as goal

pub returns : goal.returns
returns c =
    let hands = c.args.hands.now in
    let north : c.lengths_in.result ≡ lengths_in (hand_at hands North) = c.lengths_in.ensures.lengths ∙ ap lengths_in (get_or_default_zero hands 0 c.index-hands-0.result (omega arith)) in
    let east : c.lengths_in-2.result ≡ lengths_in (hand_at hands East) = c.lengths_in-2.ensures.lengths ∙ ap lengths_in (get_or_default_zero hands 1 c.index-hands-1.result (omega arith)) in
    let south : c.lengths_in-3.result ≡ lengths_in (hand_at hands South) = c.lengths_in-3.ensures.lengths ∙ ap lengths_in (get_or_default_zero hands 2 c.index-hands-2.result (omega arith)) in
    let west : c.lengths_in-4.result ≡ lengths_in (hand_at hands West) = c.lengths_in-4.ensures.lengths ∙ ap lengths_in (get_or_default_zero hands 3 c.index-hands-3.result (omega arith)) in
    omega (arith, north, east, south, west)
