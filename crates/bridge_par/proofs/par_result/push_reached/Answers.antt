use Rattle.std.proofs.Common.{◌≡◌, ◌++◌, ℤ, sym, ◌∙◌, subst, rules}
use Rattle.std.proofs.lemmas.Int.{to_z-of_z}
use mir.Syntax.{w32}
use mir.Val.{SFits}
use Rattle.bridge_par.specs.Par.{contract_by, reached_by}
use Rattle.bridge_par.proofs.Listing.{unreached}
use Rattle.bridge_par.proofs.par_result.push_reached.Goals as goal

pub returns-else-reaches-clause-items : goal.returns-else-reaches-clause-items
returns-else-reaches-clause-items c =
    let fits : SFits w32 c.args.par = search rules in
    let now = c.args.contracts.now.items in
    subst (λ (par : ℤ). now ≡ now ++ reached_by c.args.table.now c.args.vulnerability par c.args.above c.args.seat)
    (to_z-of_z w32 _ fits)
    (unreached _ (record { contract = contract_by c.args.table.now c.args.above c.args.seat }) _ (sym c.reaches.ensures ∙ c.if-reaches.false))
