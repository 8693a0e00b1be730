use Rattle.std.proofs.Common.{◌∙◌, ap}
use Rattle.session_rules.specs.State.{opening}
use Rattle.session_pair.proofs.JoiningLemmas.{one_configuration}
use Rattle.session_pair.proofs.joining.is_one_configuration.Goals as goal

pub returns : goal.returns
returns c =
    one_configuration c.args.session.configuration c.args.other.configuration c.in_ok-opening.opening c.in_ok-other_opening.other_opening
    c.is_same_state.result (c.in_ok-opening.ensures.opening ∙ ap opening c.into_config.ensures)
    (c.in_ok-other_opening.ensures.opening ∙ ap opening c.into_config-2.ensures) c.is_same_state.ensures
