use Rattle.std.proofs.Common.{List, ℕ, cond, Some, None, refl, ap, sym, ◌∙◌}
use Rattle.desk_replies.specs.PlainText.{has_plain}
use Rattle.desk_replies.proofs.PlainTexts.{plain_where, plain_nowhere}
use Rattle.desk_replies.proofs.plain_text.PlainText.read.Goals as goal

pub returns-in-Ok : goal.returns-in-Ok
returns-in-Ok c =
    let low = c.args.low in
    let high = c.args.high in
    let bytes = c.args.bytes.now in
    let spelt = c.in-Ok.ensures.cases in
    c.keep_plain.ensures
    ∙ ap (λ (t : List ℕ). cond (has_plain low high t) (Some t) None) spelt.0
    ∙ sym (plain_where low high bytes (has_plain low high bytes) spelt.1 refl)

pub returns-in-Err : goal.returns-in-Err
returns-in-Err c = sym (plain_nowhere c.args.low c.args.high c.args.bytes.now c.in-Err.ensures.cases.0)
