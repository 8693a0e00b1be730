use Rattle.std.proofs.Common.{◌≡◌, length, subst, take, drop, ◌-◌, arith}
use Rattle.bridge_cards.specs.DealText.{SpellsFour}
use Rattle.bridge_cards.proofs.DealLemmas.{begins_with, deal_once}
use Rattle.bridge_cards.proofs.deal_text.read_hands.Goals as goal

pub returns-in_err-read_four-clause-none : goal.returns-in_err-read_four-clause-none
returns-in_err-read_four-clause-none c =
    rw c.from_residual-in_err-read_four.ensures
    (λ hands spelled.
    let text = c.args.text.now in
    let begun = begins_with text _ (omega arith) c.in_ok-first.ensures.seat (omega arith) in
    let same : spelled.rest ≡ take (length text - 2) (drop 2 text) = cc (spelled.begins, begun) in
    c.in_err-read_four.ensures.none _ _ _ _ (subst (SpellsFour _ _ _ _) same spelled.clockwise))

pub returns-clause-hands : goal.returns-clause-hands
returns-clause-hands c =
    let made = c.by_seat.ensures in
    let spelled = c.in_ok-read_four.ensures.hands in
    record {
      four = omega arith;
      sets = made.sets c.in_ok-read_four.ensures.sets;
      first = c.in_ok-first.first;
      rest = _;
      begins = begins_with c.args.text.now _ (omega arith) c.in_ok-first.ensures.seat (omega arith);
      clockwise = rw (made.first, made.second, made.third, made.fourth) spelled;
    }

pub returns-clause-only : goal.returns-clause-only
returns-clause-only c =
    λ other spelled. deal_once other c.by_seat.result c.args.text.now spelled (returns-clause-hands c)
