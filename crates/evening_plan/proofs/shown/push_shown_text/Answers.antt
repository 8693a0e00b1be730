use Rattle.std.proofs.Common.{◌++◌, ap, ◌∙◌}
use Rattle.evening_plan.proofs.ShownLines.{shown_whole}
use Rattle.evening_plan.proofs.shown.push_shown_text.Goals as goal

pub returns-else-line-gt-SHOWN_BYTES-clause-text : goal.returns-else-line-gt-SHOWN_BYTES-clause-text
returns-else-line-gt-SHOWN_BYTES-clause-text c =
    c.push_shown_bytes.ensures.text
    ∙ ap (λ shown. c.args.text.now.items ++ shown) (shown_whole c.args.line.now c.min.result c.min.ensures c.if-line-gt-SHOWN_BYTES.false)
