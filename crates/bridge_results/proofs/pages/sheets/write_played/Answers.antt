use Rattle.std.proofs.Common.{sym, ap, ◌∙◌}
use Rattle.bridge_config.specs.ConfigValue.{ConfigValue}
use Rattle.bridge_results.proofs.PageParts.{played_some}
use Rattle.bridge_results.proofs.pages.sheets.write_played.Goals as goal

pub returns : goal.returns
returns g c =
    let scoring = ap (λ (k : ConfigValue). k.scoring) (c.fields.ensures.fields ∙ c.config.ensures) in
    let some = played_some c.args.format c.args.analysis.now c.args.session.now c.args.board c.args.lines.now (sym c.is_empty.ensures ∙ c.if-is_empty.false) in
    rw (scoring, c.deal-deal.ensures, c.makeable_on-known.ensures, some) at c.write_board.ensures
