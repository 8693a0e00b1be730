use Rattle.std.proofs.Common.{◌≡◌, ◌≤◌, ℕ}
use Rattle.slab.specs.Slab.{get}
use Rattle.web_loop.specs.Connected.{KeepsLimits}
use Rattle.web_loop.specs.Turns.{LeadsTo}
use Rattle.web_loop.specs.Round.{TurnsBelow}
use Rattle.web_loop.proofs.clients.Clients.take_each_turn.Given as goal

abbrev pub invariant-loop-key : goal.invariant-loop-key
invariant-loop-key g l =
    LeadsTo g.S.Service.answers l.fn.service l.service
    × TurnsBelow g.S.Service.answers g.S.LastingService.stays g.S.LastingService.wish g.S.LastingService.waits g.S.LastingService.offences g.T.Read.remaining g.T.Write.contents
    l.fn.now l.fn.looks (get l.fn.self.connected) (get l.self.connected) l.key l.fn.service l.service l.fn.self.offenders l.self.offenders l.moved
    × ((other : ℕ) → l.key ≤ other → get l.self.connected other ≡ get l.fn.self.connected other)
    × KeepsLimits l.fn.self l.self
    × (l.self.looked ≡ l.fn.self.looked)
