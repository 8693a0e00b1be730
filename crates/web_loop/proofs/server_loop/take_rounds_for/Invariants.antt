use Rattle.std.proofs.Common.{ℕ}
use Rattle.web_loop.specs.Connected.{KeepsLimits}
use Rattle.web_loop.specs.Turns.{LeadsTo}
use Rattle.web_loop.specs.Serving.{Rounds}
use Rattle.web_loop.proofs.server_loop.take_rounds_for.Given as goal

abbrev pub invariant-loop : goal.invariant-loop
invariant-loop g l =
    LeadsTo g.S.Service.answers l.fn.service l.service × KeepsLimits l.fn.clients l.clients
    × ((count : ℕ) × Rounds g.S.LastingService.lasts g.S.Service.answers g.S.LastingService.stays g.S.LastingService.wish g.S.LastingService.waits g.S.LastingService.offences g.N.Stream.Read.remaining g.N.Stream.Write.contents count l.fn.clients l.clients l.fn.service l.service)
