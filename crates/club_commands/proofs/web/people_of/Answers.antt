use Rattle.std.proofs.Common.{◌≡◌, ◌∙◌, ap, subst, IfOk}
use Rattle.bridge_config.specs.ConfigValue.{ConfigValue}
use Rattle.evening_commands.specs.People.{people_text}
use Rattle.session_rules.specs.State.{SessionValue}
use Rattle.club_commands.proofs.web.people_of.Goals as goal

pub returns : goal.returns
returns c =
    subst (λ (k : ConfigValue). IfOk c.people_text.result (λ people. people.items ≡ people_text c.args.names k.pairs))
    (c.fields-fields.ensures.fields ∙ (c.config.ensures ∙ ap (λ (s : SessionValue). s.configuration) c.state.ensures.state))
    (rw c.as_slice.ensures.value at c.people_text.ensures)
