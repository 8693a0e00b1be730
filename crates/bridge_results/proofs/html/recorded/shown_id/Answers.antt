use Rattle.std.proofs.Common.{sym, ◌∙◌}
use Rattle.session_rules.specs.declared.action.PlayId.{PlayId}
use Rattle.bridge_results.proofs.HtmlParts.{id_numbers}
use Rattle.bridge_results.proofs.html.recorded.shown_id.Goals as goal

pub unwrap-requires : goal.unwrap-requires
unwrap-requires c =
    let id : PlayId = record { round = c.args.play.now.row.round; table = c.args.play.now.row.table; index = c.saturating_sub-index.result } in
    c.new.ensures.valid.1 (id_numbers id (sym c.is_id.ensures ∙ c.if-not-is_id.false)).0

pub unwrap-requires-2 : goal.unwrap-requires-2
unwrap-requires-2 c =
    let id : PlayId = record { round = c.args.play.now.row.round; table = c.args.play.now.row.table; index = c.saturating_sub-index.result } in
    c.new-2.ensures.valid.1 (id_numbers id (sym c.is_id.ensures ∙ c.if-not-is_id.false)).1

pub unwrap-requires-3 : goal.unwrap-requires-3
unwrap-requires-3 c =
    let id : PlayId = record { round = c.args.play.now.row.round; table = c.args.play.now.row.table; index = c.saturating_sub-index.result } in
    c.new-3.ensures.valid.1 (id_numbers id (sym c.is_id.ensures ∙ c.if-not-is_id.false)).2
