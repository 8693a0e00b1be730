use Rattle.std.proofs.Common.{◌≤◌, Some}
use Rattle.web_loop.specs.Room.{Counts}
use Rattle.web_loop.proofs.clients.Clients.count_from.Given as goal

abbrev pub invariant-loop-key : goal.invariant-loop-key
invariant-loop-key g l = Counts (Some l.fn.address) l.fn.self.connected l.key l.count × (l.count ≤ l.key)
