use Rattle.web_loop.proofs.Limits.{KeepsLimits-then}
use Rattle.web_loop.proofs.Serves.{LetsIn-more}
use Rattle.web_loop.proofs.server_loop.admit_waiting.Goals as goal

pub loop-preserved : goal.loop-preserved
loop-preserved g c = (
  LetsIn-more c.args.now c.loop.counter c.in-Ok.stream c.ip.result c.args.clients.now c.loop.clients c.admit.new.self c.admit.result c.loop.invariant.0 c.admit.ensures.admitted c.admit.ensures.err,
  KeepsLimits-then _ _ _ c.loop.invariant.1 c.admit.ensures.limits,
)
