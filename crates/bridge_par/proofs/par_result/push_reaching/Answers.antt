use Rattle.std.proofs.Common.{◌≡◌, ◌++◌, ℤ, subst, rules}
use Rattle.std.proofs.lemmas.Int.{to_z-of_z}
use mir.Syntax.{w32}
use mir.Val.{SFits}
use Rattle.bridge_par.specs.Par.{reaching}
use Rattle.bridge_par.proofs.Listing.{four-appended}
use Rattle.bridge_par.proofs.par_result.push_reaching.Goals as goal

pub returns-clause-items : goal.returns-clause-items
returns-clause-items c =
    let fits : SFits w32 c.args.par = search rules in
    subst (λ (par : ℤ). c.push_reached-4.new.contracts.items ≡ c.args.contracts.now.items ++ reaching c.args.table.now c.args.vulnerability par c.args.above)
    (to_z-of_z w32 _ fits)
    (four-appended _ _ _ _ _ _ _ _ _ c.push_reached.ensures.items c.push_reached-2.ensures.items c.push_reached-3.ensures.items
    c.push_reached-4.ensures.items)
