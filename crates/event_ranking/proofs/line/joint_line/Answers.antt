use Rattle.std.proofs.Common.{◌+◌, ◌≤◌, ◌+ℤ◌, ℕ, ℤ, pos, take, sum_by, sym, ap, ◌∙◌, subst, arith}
use Rattle.std.proofs.lemmas.Int.{to_z-of_z}
use Rattle.std.proofs.lemmas.List.Sums.{sum_by_more}
use mir.Syntax.{w32}
use mir.Val.{SFits, to_z}
use Rattle.bridge_ranking.specs.declared.game.Game.{Game}
use Rattle.bridge_ranking.specs.declared.game.PlayResult.TheVariants.{Score}
use Rattle.bridge_ranking.specs.Ranking.{value_in, available_in}
use Rattle.bridge_ranking.specs.Gains.{IsGainWithin}
use Rattle.bridge_ranking.proofs.Gains.{within_both, code_sum, summed}
use Rattle.event_ranking.specs.Joint.{joint}
use Rattle.event_ranking.proofs.Added.{gain_fits}
use Rattle.event_ranking.proofs.line.joint_line.Goals as goal

-- the value that a read past the end would give
abbrev none : Game
none = record { board = 0; ns = 0; ew = 0; result = Score (pos 0) }

pub overflow_add-value : goal.overflow_add-value
overflow_add-value c =
    let v : ℤ = to_z w32 c.loop-game.value-bits in
    let gain = c.gain_in-gain.result in
    let few : c.loop-game.available + gain.available ≤ 149290560 = omega (arith, c.loop-game.invariant.most, c.gain_in-gain.ensures.most, c.loop-game-test.true, c.requires.most) in
    let fits_gain = gain_fits c.args.scoring gain.value gain.available c.gain_in-gain.ensures.within (omega arith) in
    let both = within_both c.args.scoring v gain.value c.loop-game.available gain.available c.loop-game.invariant.within c.gain_in-gain.ensures.within in
    subst (λ z. SFits w32 (v +ℤ z)) (sym (to_z-of_z w32 gain.value fits_gain)) (gain_fits c.args.scoring (v +ℤ gain.value) (c.loop-game.available + gain.available) both few)

pub loop-game-preserved : goal.loop-game-preserved
loop-game-preserved c =
    let v : ℤ = to_z w32 c.loop-game.value-bits in
    let gain = c.gain_in-gain.result in
    let few : c.loop-game.available + gain.available ≤ 149290560 = omega (arith, c.loop-game.invariant.most, c.gain_in-gain.ensures.most, c.loop-game-test.true, c.requires.most) in
    let fits_gain = gain_fits c.args.scoring gain.value gain.available c.gain_in-gain.ensures.within (omega arith) in
    let both = within_both c.args.scoring v gain.value c.loop-game.available gain.available c.loop-game.invariant.within c.gain_in-gain.ensures.within in
    let sum = code_sum v gain.value fits_gain (gain_fits c.args.scoring (v +ℤ gain.value) (c.loop-game.available + gain.available) both few) in
    let all = joint c.args.wide.now in
    let own = c.args.own.now in
    let i = c.loop-game.game-index in
    let available : Game → ℕ = available_in all c.args.pair in
    record {
      value = sum ∙ summed (value_in c.args.scoring all c.args.pair) own i none v gain.value c.loop-game-test.true c.loop-game.invariant.value c.gain_in-gain.ensures.value;
      available =
          ap (λ n. n + gain.available) c.loop-game.invariant.available
          ∙ ap (λ n. sum_by available (take i own) + n) c.gain_in-gain.ensures.available
          ∙ sym (sum_by_more available own i none c.loop-game-test.true);
      within = subst (λ z. IsGainWithin c.args.scoring z (c.loop-game.available + gain.available)) (sym sum) both;
      most = omega (arith, c.loop-game.invariant.most, c.gain_in-gain.ensures.most);
    }
