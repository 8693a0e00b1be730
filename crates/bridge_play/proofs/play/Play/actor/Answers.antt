use Rattle.std.proofs.Common.{◌≡◌, ◌≢◌, ◌∙◌, ap, subst}
use Rattle.bridge_auction.specs.declared.contract.Contract.{Contract}
use Rattle.bridge_play.specs.Dummy.{actor_of, dummy_of}
use Rattle.bridge_play.specs.Play.{PlayValue}
use Rattle.bridge_play.proofs.Seats.{actor_not_dummy}
use Rattle.bridge_play.proofs.play.Play.actor.Goals as goal

pub returns-clause-not_dummy : goal.returns-clause-not_dummy
returns-clause-not_dummy c =
    let agreed = c.contract.result.now in
    let same : agreed ≡ c.args.self.now.contract = c.contract.ensures ∙ ap (λ (p : PlayValue). p.contract) c.self.view_is in
    rw c.actor.ensures
    (subst (λ (contract : Contract). actor_of agreed c.turn.result ≢ dummy_of contract) same (actor_not_dummy agreed c.turn.result))
