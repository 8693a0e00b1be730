use Rattle.std.proofs.Common.{◌+ℤ◌, ℤ, ap, ◌∙◌, arith}
use Rattle.std.proofs.lemmas.Int.{ints, to_z-of_z}
use Rattle.bridge_results.specs.declared.card.CardLine.{CardLine}
use Rattle.bridge_ranking.proofs.Gains.{summed}
use mir.Syntax.{w32, w64}
use mir.Val.{SFits, to_z}
use Rattle.bridge_results.proofs.pages.pair_card.gain_sum.Goals as goal

pub loop-line-preserved : goal.loop-line-preserved
loop-line-preserved c =
    let gain : ℤ = c.from-sum.result in
    let before : ℤ = to_z w64 c.loop-line.sum-bits in
    let fits_gain : SFits w64 gain = omega (arith, ints) in
    let fits : SFits w64 (before +ℤ gain) = omega (arith, ints) in
    let item = c.line-item.result in
    let fits_item : SFits w32 item.gain = omega (arith, ints) in
    record {
      sum =
          rw (to_z-of_z w64 gain fits_gain, to_z-of_z w64 (before +ℤ gain) fits)
          (summed (λ (line : CardLine). line.gain) c.args.lines.now c.loop-line.line-index item before gain c.loop-line-test.true
          c.loop-line.invariant.sum (c.from-sum.ensures ∙ to_z-of_z w32 item.gain fits_item ∙ ap (λ (line : CardLine). line.gain) c.line-item.is));
      least = omega (arith, ints);
      most = omega (arith, ints);
    }
