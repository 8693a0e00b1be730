use Rattle.std.proofs.Common.{IsSome, refl, subst}
use Rattle.slab.specs.Slab.{get, with_value}
use Rattle.slab.proofs.SlabLemmas.{Updates-with_value}
use Rattle.web_loop.specs.Round.{StandsAfter}
use Rattle.web_loop.proofs.clients.turn_at.Goals as goal

pub returns-in-Some-clause-turn : goal.returns-in-Some-clause-turn
returns-in-Some-clause-turn g c =
    let stood = subst (λ found. IsSome found) c.in-Some.ensures.value refl in
    let left = Updates-with_value c.args.connected.now c.args.key c.take_turn.new.self stood in
    subst (λ found. StandsAfter g.S.Service.answers g.S.LastingService.stays g.S.LastingService.wish g.S.LastingService.waits g.S.LastingService.offences g.T.Read.remaining g.T.Write.contents
    c.args.now c.args.looks c.take_turn.result found (get (with_value c.args.connected.now c.args.key c.take_turn.new.self) c.args.key) c.args.service.now c.take_turn.new.service
    c.args.offenders.now c.take_turn.new.offenders)
    c.in-Some.ensures.value (
      c.take_turn.new.self,
      left.changed,
      c.take_turn.ensures.turn,
    )
