use Rattle.std.proofs.Common.{Option, sym, subst}
use Rattle.bridge_play.specs.Play.{PlayValue}
use Rattle.session_rules.specs.See.{shown_with}
use Rattle.session_rules.specs.Views.{IsViewOf}
use Rattle.bridge_table.proofs.view.view_of.Goals as goal

pub returns-in-None : goal.returns-in-None
returns-in-None c =
    let kept = c.args.kept.now in
    subst (λ (play : Option PlayValue). IsViewOf c.args.id.round c.args.id.table c.args.seat (shown_with c.args.id.index c.args.seat c.args.deal.now kept.board kept.auction.calls play) c.view_of_auction.result)
    (sym c.in-None.is) c.view_of_auction.ensures
