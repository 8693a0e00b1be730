use Rattle.std.proofs.Common.{◌*◌, ◌∙◌, [], nat_le, refl, ap, subst, arith}
use Rattle.bridge_endings.specs.Worth.{dealt, worth_with}
use Rattle.bridge_endings.specs.SearchValue.{IsAnswer}
use Rattle.bridge_endings.proofs.Root.{worth_le}
use Rattle.bridge_endings.proofs.Reached.{told_here}
use Rattle.bridge_endings.proofs.solver.tricks_won.Goals as goal

pub loop-bounds-init : goal.loop-bounds-init
loop-bounds-init c = record {
  bounded = record { least = omega arith; most = worth_le c.args.search.now.trump c.args.tricks (dealt c.args.hands.now) c.args.leader };
  few = omega arith;
  trump = refl;
  limit = refl;
  tried = omega arith;
  table = c.requires.table;
}

pub loop-bounds-smaller : goal.loop-bounds-smaller
loop-bounds-smaller c = omega (arith, (c.narrowed-bounds.ensures.closer (omega arith)).1)

pub loop-bounds-preserved : goal.loop-bounds-preserved
loop-bounds-preserved c =
    let here = dealt c.args.hands.now in
    let need = c.min-need.result in
    let answer = c.in_ok-answer.answer in
    let is : IsAnswer c.loop-bounds.search.trump (4 * c.args.tricks) need answer here c.args.leader [] =
    subst (λ held. IsAnswer c.loop-bounds.search.trump (4 * c.args.tricks) need answer held c.args.leader []) c.all_cards-left.ensures.all c.in_ok-answer.ensures.answer in
    let told = told_here here c.requires.dealt c.loop-bounds.search.trump c.args.tricks need c.args.leader answer is in
    record {
      bounded = c.narrowed-bounds.ensures.bounded (worth_with c.args.search.now.trump (4 * c.args.tricks) here c.args.leader []) c.loop-bounds.invariant.bounded
          (told ∙ ap (λ t. nat_le need (worth_with t (4 * c.args.tricks) here c.args.leader [])) c.loop-bounds.invariant.trump);
      few = omega (arith, (c.narrowed-bounds.ensures.closer (omega arith)).0, c.loop-bounds.invariant.few);
      trump = c.in_ok-answer.ensures.later.trump ∙ c.loop-bounds.invariant.trump;
      tried = omega (arith, c.in_ok-answer.ensures.later.tried, c.loop-bounds.invariant.tried);
      limit = c.in_ok-answer.ensures.later.limit ∙ c.loop-bounds.invariant.limit;
      table = c.in_ok-answer.ensures.table;
    }
