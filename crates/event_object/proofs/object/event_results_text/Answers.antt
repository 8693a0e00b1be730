use Rattle.std.proofs.Common.{ap, ◌∙◌}
use Rattle.std.proofs.lemmas.Result.{IfOk-weaker}
use Rattle.serde_json.specs.Written.{compact_text, has_float}
use Rattle.event_object.proofs.Floats.{event_results_plain}
use Rattle.event_object.proofs.object.event_results_text.Goals as goal

pub returns : goal.returns
returns c =
    let known = c.in_ok-value.ensures in
    IfOk-weaker c.to_string.result _ _ (λ text exact. exact (ap has_float known ∙ event_results_plain _ _ _) ∙ ap compact_text known) c.to_string.ensures.text
