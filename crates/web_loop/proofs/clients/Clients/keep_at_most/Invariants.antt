use Rattle.std.proofs.Common.{◌-◌, ◌≤◌, Some}
use Rattle.web_loop.specs.Connected.{OnlyCloses}
use Rattle.web_loop.specs.Room.{Drops}
use Rattle.web_loop.proofs.clients.Clients.keep_at_most.Given as goal

abbrev pub invariant-loop : goal.invariant-loop
invariant-loop g l =
    Drops (Some l.fn.address) (l.counter - l.fn.most) l.fn.self l.self × OnlyCloses l.fn.self l.self
    × (l.fn.most ≤ l.counter) × (l.counter - l.fn.most ≤ l.end - l.fn.most)
