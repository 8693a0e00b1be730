use Rattle.std.proofs.Common.{◌≡◌, ◌<◌, ◌≤◌, ℕ}
use Rattle.slab.specs.Slab.{get}
use Rattle.web_loop.specs.Connected.{released, KeepsLimits}
use Rattle.web_loop.proofs.clients.Clients.release.Given as goal

abbrev pub invariant-loop-key : goal.invariant-loop-key
invariant-loop-key g l =
    ((other : ℕ) → other < l.key → get l.self.connected other ≡ released (get l.fn.self.connected other))
    × ((other : ℕ) → l.key ≤ other → get l.self.connected other ≡ get l.fn.self.connected other)
    × (l.self ≡ record l.fn.self { connected = l.self.connected }) × KeepsLimits l.fn.self l.self
