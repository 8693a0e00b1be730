use Rattle.std.proofs.Common.{ℕ, ◌<◌, subst, sym, refl}
use Rattle.bridge_score.specs.ImpScale.{imp_beginnings}
use Rattle.bridge_score.proofs.Scale.{reached_iff}
use Rattle.bridge_score.proofs.imp_scale.imps.Goals as goal

pub returns-clause-begins : goal.returns-clause-begins
returns-clause-begins c k within =
    let count = c.beginnings_reached.ensures.count in
    let table = reached_iff c.args.difference 0 imp_beginnings refl k within in
    let P : ℕ → Type 0 = λ n. k < n in
    (λ h. table.0 (subst P count h), λ h. subst P (sym count) (table.1 h))
