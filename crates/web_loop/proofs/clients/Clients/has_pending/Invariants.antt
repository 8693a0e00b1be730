use Rattle.std.proofs.Common.{◌<◌, ℕ}
use Rattle.slab.specs.Slab.{get}
use Rattle.web_loop.specs.Connected.{IsPendingAt}
use Rattle.web_loop.proofs.clients.Clients.has_pending.Given as goal

abbrev pub invariant-loop-key : goal.invariant-loop-key
invariant-loop-key g l = (key : ℕ) → key < l.key → ¬ (IsPendingAt (get l.fn.self.connected key))
