use Rattle.web_loop.specs.Room.{AreAllFrom}
use Rattle.web_loop.proofs.clients.Clients.other_than.Given as goal

abbrev pub invariant-loop-key : goal.invariant-loop-key
invariant-loop-key g l = AreAllFrom l.fn.address l.fn.self.connected l.key
