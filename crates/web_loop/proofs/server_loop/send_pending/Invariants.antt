use Rattle.std.proofs.Common.{◌≤◌, ℕ}
use Rattle.web_loop.specs.Connected.{KeepsLimits}
use Rattle.web_loop.specs.Turns.{LeadsTo}
use Rattle.web_loop.specs.Serving.{LastRounds}
use Rattle.web_loop.proofs.server_loop.send_pending.Given as goal

abbrev pub invariant-loop : goal.invariant-loop
invariant-loop g l =
    LeadsTo g.S.Service.answers l.fn.service l.service × KeepsLimits l.fn.clients l.clients
    × ((count : ℕ) × LastRounds g.S.LastingService.lasts g.S.Service.answers g.S.LastingService.stays g.S.LastingService.wish g.S.LastingService.waits g.S.LastingService.offences g.N.Stream.Read.remaining g.N.Stream.Write.contents count l.fn.clients l.clients l.fn.service l.service × (l.counter ≤ count))
