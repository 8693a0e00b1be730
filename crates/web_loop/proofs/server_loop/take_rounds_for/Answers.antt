use Rattle.web_loop.proofs.Limits.{KeepsLimits-then}
use Rattle.web_loop.proofs.Leading.{LeadsTo-then}
use Rattle.web_loop.proofs.Serves.{Rounds-more}
use Rattle.web_loop.proofs.server_loop.take_rounds_for.Goals as goal

pub returns-in_err-take_round : goal.returns-in_err-take_round
returns-in_err-take_round g c = record {
  leads = LeadsTo-then g.S.Service.answers _ _ _ c.loop.invariant.0 c.take_round.ensures.leads;
  rounds = rw (c.in_err-take_round.ensures.none.0, c.in_err-take_round.ensures.none.1) c.loop.invariant.2;
  limits = KeepsLimits-then _ _ _ c.loop.invariant.1 c.take_round.ensures.limits;
}

pub loop-preserved : goal.loop-preserved
loop-preserved g c = (
  LeadsTo-then g.S.Service.answers _ _ _ c.loop.invariant.0 c.take_round.ensures.leads,
  KeepsLimits-then _ _ _ c.loop.invariant.1 c.take_round.ensures.limits,
  Rounds-more g.S.LastingService.lasts g.S.Service.answers g.S.LastingService.stays g.S.LastingService.wish g.S.LastingService.waits g.S.LastingService.offences g.N.Stream.Read.remaining g.N.Stream.Write.contents
      c.args.clients.now c.loop.clients c.take_round.new.clients c.args.service.now c.loop.service c.take_round.new.service c.loop.invariant.2 c.in_ok-take_round.ensures.round,
)
