use Rattle.std.proofs.Common.{◌∙◌, nat_le, refl, ap, subst, sym, arith}
use Rattle.bridge_endings.specs.PlayedCards.{seen, IsMoment, won_in_all}
use Rattle.bridge_endings.proofs.GoingOn.{goes_on_again}
use Rattle.bridge_endings.proofs.costs.won_in_all.Goals as goal

pub loop-bounds-init : goal.loop-bounds-init
loop-bounds-init c = record {
  bounded = c.requires.bounded;
  later = record { trump = refl; tried = omega arith; limit = refl };
  table = c.requires.table;
}

pub reaches_in_all-reached-requires-clause-moment : goal.reaches_in_all-reached-requires-clause-moment
reaches_in_all-reached-requires-clause-moment c =
    subst (λ t. IsMoment t c.args.moment.now) (sym c.loop-bounds.invariant.later.trump) c.requires.moment

pub loop-bounds-smaller : goal.loop-bounds-smaller
loop-bounds-smaller c = omega (arith, (c.narrowed-bounds.ensures.closer (omega arith)).1)

pub loop-bounds-preserved : goal.loop-bounds-preserved
loop-bounds-preserved c = record {
  bounded = c.narrowed-bounds.ensures.bounded (won_in_all c.args.search.now.trump (seen c.args.moment.now)) c.loop-bounds.invariant.bounded
      (c.reaches_in_all-reached.ensures.reached ∙ ap (λ t. nat_le c.min-need.result (won_in_all t (seen c.args.moment.now))) c.loop-bounds.invariant.later.trump);
  later = goes_on_again c.args.search.now c.loop-bounds.search c.reaches_in_all-reached.new.search c.loop-bounds.invariant.later c.reaches_in_all-reached.ensures.later;
  table = c.reaches_in_all-reached.ensures.table;
}
