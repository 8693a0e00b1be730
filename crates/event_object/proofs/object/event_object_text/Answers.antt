use Rattle.std.proofs.lemmas.Result.{IfOk-weaker}
use Rattle.event_object.proofs.object.event_object_text.Goals as goal

pub returns : goal.returns
returns c =
    IfOk-weaker c.event_results_text.result _ _ (λ text is. (
      c.ranking-first.result.now,
      c.ranking-second.result.now,
      c.ranking-first.ensures,
      c.ranking-second.ensures,
      is,
    )) c.event_results_text.ensures
