use Rattle.web_loop.specs.Connected.{KeepsLimits}
use Rattle.web_loop.specs.Serving.{LetsIn}
use Rattle.web_loop.proofs.server_loop.admit_waiting.Given as goal

abbrev pub invariant-loop : goal.invariant-loop
invariant-loop g l = LetsIn l.fn.now l.counter l.fn.clients l.clients × KeepsLimits l.fn.clients l.clients
