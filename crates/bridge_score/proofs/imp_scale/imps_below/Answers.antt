use Rattle.std.proofs.Common.{◌≤◌, subst, sym}
use Rattle.bridge_score.proofs.Scale.{imps_from_tens, imps_most}
use Rattle.bridge_score.proofs.imp_scale.imps_below.Goals as goal

pub returns-clause-count : goal.returns-clause-count
returns-clause-count c = imps_from_tens c.args.difference c.requires

pub returns-clause-most : goal.returns-clause-most
returns-clause-most c =
    subst (λ n. n ≤ 24) (sym (imps_from_tens c.args.difference c.requires)) (imps_most c.args.difference)
