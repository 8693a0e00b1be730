use Rattle.session_store.proofs.LookingLemmas.{newer-has}
use Rattle.session_store.proofs.headers.find_header.Goals as goal

pub returns-clause-range : goal.returns-clause-range
returns-clause-range g c = rw c.newer_header.ensures (newer-has _ _ _ c.in_ok-first.ensures.first_range c.in_ok-first.ensures.second_range)
