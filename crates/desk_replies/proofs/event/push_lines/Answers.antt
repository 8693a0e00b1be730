use Rattle.std.proofs.Common.{[], ◌∷◌, codes}
use Rattle.bridge_config.specs.ConfigValue.{configuration_of}
use Rattle.line_replies.specs.ReplyTexts.{spaced_line}
use Rattle.desk_replies.specs.Told.{plan_words}
use Rattle.desk_replies.proofs.Lines.{then_ok, line_of, four_more}
use Rattle.desk_replies.proofs.event.push_lines.Goals as goal

pub returns : goal.returns
returns c =
    let k = configuration_of c.args.fields.now in
    then_ok c.push_plan.result
    (four_more (spaced_line (codes "EVENT") (k.event ∷ []) ∷ []) (spaced_line (codes "SITE") (k.site ∷ []) ∷ []) (spaced_line (codes "DATE") (k.date ∷ []) ∷ []) (spaced_line (codes "PLAN") (plan_words k) ∷ [])
    _ _ _ _ _
    (line_of (codes "EVENT") _ _ _ _ c.deref.ensures.0 c.in_ok-push_line.ensures)
    (line_of (codes "SITE") _ _ _ _ c.deref-2.ensures.0 c.in_ok-push_line-2.ensures)
    (line_of (codes "DATE") _ _ _ _ c.deref-3.ensures.0 c.in_ok-push_line-3.ensures))
    c.push_plan.ensures
