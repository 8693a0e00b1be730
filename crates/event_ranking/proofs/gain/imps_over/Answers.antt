use Rattle.std.proofs.Common.{◌+ℤ◌, arith, pos, get_or, rules}
use Rattle.std.proofs.lemmas.Int.{ints, to_z-of_z}
use mir.Syntax.{w32}
use mir.Val.{SFits, to_z}
use Rattle.bridge_score.proofs.Sums.{added_for}
use Rattle.event_ranking.proofs.gain.imps_over.Goals as goal

pub loop-other-preserved : goal.loop-other-preserved
loop-other-preserved c = record {
  sum =
      let here : SFits w32 (get_or c.args.others.now c.loop-other.other-index (pos 0)) = search rules in
      let gained : SFits w32 c.imps_against-total.result = search rules in
      let fits : SFits w32 (to_z w32 c.loop-other.total-bits +ℤ c.imps_against-total.result) = omega (arith, ints) in
      added_for _ _ c.loop-other.other-index _ c.imps_against-total.result _ c.loop-other-test.true c.loop-other.invariant.sum
      (to_z-of_z w32 _ here) c.imps_against-total.ensures.value gained fits;
  least = omega (arith, ints);
  most = omega (arith, ints);
}
