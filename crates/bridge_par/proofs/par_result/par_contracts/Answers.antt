use Rattle.std.proofs.Common.{◌≡◌, ◌-◌, ℤ, refl, subst, rules, arith}
use Rattle.std.proofs.lemmas.Int.{to_z-of_z}
use mir.Syntax.{w32}
use mir.Val.{SFits}
use Rattle.bridge_par.specs.Par.{par_contracts}
use Rattle.bridge_par.proofs.Listing.{listed-more, listed-all}
use Rattle.bridge_par.proofs.par_result.par_contracts.Goals as goal

pub loop-number-preserved : goal.loop-number-preserved
loop-number-preserved c = record {
  items = listed-more _ _ _ _ _ _ (34 - c.loop-number.number) c.loop-number.number c.loop-number-test.true refl c.push_reaching.ensures.items
      c.loop-number.invariant.items;
  few = omega (arith, c.push_reaching.ensures.few, c.loop-number.invariant.few);
}

pub returns : goal.returns
returns c =
    let fits : SFits w32 c.args.par = search rules in
    subst (λ (par : ℤ). c.loop-number.contracts.items ≡ par_contracts c.args.table.now c.args.vulnerability par)
    (to_z-of_z w32 _ fits)
    (listed-all _ _ _ _ _ c.loop-number.number (omega arith) c.loop-number.invariant.items)
