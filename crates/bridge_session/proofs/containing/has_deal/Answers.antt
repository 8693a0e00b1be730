use Rattle.std.proofs.Common.{List, ℕ, Option, Some, sym, subst}
use Rattle.std.specs.Bool.{Decides}
use Rattle.std.proofs.lemmas.Bool.Decides.{Decides-at}
use Rattle.bridge_session.specs.HasAll.{HasDeal}
use Rattle.bridge_session.proofs.SameCalls.{deals_decided}
use Rattle.bridge_session.proofs.HasAllLaws.{deal_decided}
use Rattle.bridge_session.proofs.containing.has_deal.Goals as goal

pub returns-in-Some-Some : goal.returns-in-Some-Some
returns-in-Some-Some c =
    let our = c.in-Some-Some.our in
    let their = c.in-Some-Some.their in
    let same : Decides c.eq.result (HasDeal (Some our) (Some their)) =
    deal_decided our their c.eq.result (Decides-at _ _ c.eq.ensures (deals_decided our their)) in
    subst (λ (ours : Option (List ℕ)). Decides c.eq.result (HasDeal ours c.args.theirs.now)) (sym c.in-Some-Some.is-0)
    (subst (λ (theirs : Option (List ℕ)). Decides c.eq.result (HasDeal (Some our) theirs)) (sym c.in-Some-Some.is-1) same)
