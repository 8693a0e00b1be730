use Rattle.web_loop.proofs.Limits.{KeepsLimits-then}
use Rattle.web_loop.proofs.server_loop.take_round.Goals as goal

pub returns-then-not-take_turns-clause-limits : goal.returns-then-not-take_turns-clause-limits
returns-then-not-take_turns-clause-limits g c = KeepsLimits-then _ _ _ c.admit_waiting.ensures.limits c.take_turns.ensures.limits

pub returns-else-not-take_turns-clause-limits : goal.returns-else-not-take_turns-clause-limits
returns-else-not-take_turns-clause-limits g c = KeepsLimits-then _ _ _ c.admit_waiting.ensures.limits c.take_turns.ensures.limits
