use Rattle.session_rules.proofs.StaysValid.{opening_valid}
use Rattle.session_rules.proofs.ValidStep.{step_valid}
use Rattle.session_rules.proofs.valid.sessions_are_valid.Goals as goal

pub returns-clause-opening : goal.returns-clause-opening
returns-clause-opening c = opening_valid

pub returns-clause-steps : goal.returns-clause-steps
returns-clause-steps c = step_valid
