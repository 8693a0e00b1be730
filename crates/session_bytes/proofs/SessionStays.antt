-- The opening is a session, and an accepted action makes one of one.
use Rattle.std.proofs.Common.{◌≡◌, Ok}
use Rattle.bridge_config.specs.ConfigValue.{ConfigValue}
use Rattle.bridge_config.specs.Limits.{IsConfiguration}
use Rattle.session_rules.specs.declared.action.Action.{Action}
use Rattle.session_bytes.specs.ActionRange.{IsInRange}
use Rattle.session_rules.specs.State.{SessionValue, opening}
use Rattle.session_rules.specs.StateRange.{IsSession}
use Rattle.session_rules.specs.Step.{step_answer, changed}
use Rattle.session_bytes.proofs.ActionInRange.{range_is_action}
use Rattle.session_bytes.proofs.StateRanges.{opening_in_range, changed_in_range}
use Rattle.session_rules.proofs.StaysValid.{opening_valid}
use Rattle.session_rules.proofs.ValidStep.{step_valid}

pub opening_session : (configuration : ConfigValue) → IsConfiguration configuration → IsSession (opening configuration)
opening_session configuration limits = record {
  valid = opening_valid configuration limits;
  ranges = opening_in_range configuration;
}

pub step_session : (action : Action) (s : SessionValue) → IsInRange action → IsSession s → step_answer s action ≡ Ok tt → IsSession (changed s action)
step_session action s range is ok = record {
  valid = step_valid action s (range_is_action action range) is.valid ok;
  ranges = changed_in_range action s range is.ranges;
}
