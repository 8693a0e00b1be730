use Rattle.std.proofs.Common.{sym, ap, ◌∙◌}
use Rattle.std.specs.Option.{option_copied}
use Rattle.std.proofs.lemmas.Bool.Decides.{Decides-at}
use Rattle.bridge_session.proofs.SameCalls.{deals_decided}
use Rattle.event_ranking.proofs.Alike.{both_there}
use Rattle.event_ranking.proofs.field.have_one_deal.Goals as goal

pub returns-in-Some-Some : goal.returns-in-Some-Some
returns-in-Some-Some c =
    let our = c.in-Some-Some.our.now in
    let their = c.in-Some-Some.their.now in
    both_there c.eq.result _ _ our their (sym c.deal.ensures ∙ ap option_copied c.in-Some-Some.is-0) (sym c.deal-2.ensures ∙ ap option_copied c.in-Some-Some.is-1)
    (Decides-at _ _ c.eq.ensures (deals_decided our their))
