use Rattle.bridge_session.proofs.HasAllLaws.{step_kept}
use Rattle.bridge_session.proofs.containing.sessions_keep_what_they_have.Goals as goal

pub returns : goal.returns
returns c = step_kept
