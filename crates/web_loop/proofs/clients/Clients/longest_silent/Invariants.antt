use Rattle.web_loop.specs.Room.{FindsLongest}
use Rattle.web_loop.proofs.clients.Clients.longest_silent.Given as goal

abbrev pub invariant-loop-key : goal.invariant-loop-key
invariant-loop-key g l = FindsLongest l.fn.from l.fn.self.connected l.key l.longest
