use Rattle.session_bytes.proofs.SessionLawful.{session_is_lawful}
use Rattle.session_bytes.proofs.SessionStays.{opening_session}
use Rattle.bridge_session.proofs.stored.sessions_can_be_stored.Goals as goal

pub returns-clause-opening : goal.returns-clause-opening
returns-clause-opening c = opening_session

pub returns-clause-lawful : goal.returns-clause-lawful
returns-clause-lawful c = session_is_lawful
