use Rattle.session_store.proofs.LookingLemmas.{after-recovered}
use Rattle.session_store.proofs.looking.read_state.Goals as goal

pub returns-in-Ok-clause-state : goal.returns-in-Ok-clause-state
returns-in-Ok-clause-state g c = λ honest. after-recovered g.K.Kept.kept _ _ (c.in-Ok.ensures.seen.state_of honest)
