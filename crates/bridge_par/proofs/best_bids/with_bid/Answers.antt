use Rattle.std.proofs.Common.{◌∙◌, rules}
use Rattle.std.proofs.lemmas.Int.{to_z-of_z}
use mir.Syntax.{w32}
use mir.Val.{SFits}
use Rattle.bridge_par.proofs.Calling.{IsBest-more}
use Rattle.bridge_par.proofs.best_bids.with_bid.Goals as goal

pub returns : goal.returns
returns c =
    let first : SFits w32 c.best_with.result = search rules in
    let second : SFits w32 c.best_with-2.result = search rules in
    IsBest-more c.args.table.now c.args.vulnerability c.args.above c.args.best _ _ c.requires.best
    (to_z-of_z w32 _ first ∙ c.best_with.ensures) (to_z-of_z w32 _ second ∙ c.best_with-2.ensures)
