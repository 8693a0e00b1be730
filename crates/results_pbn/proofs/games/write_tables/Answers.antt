use Rattle.std.proofs.Common.{ap}
use Rattle.page_layout.proofs.Walk.{then_written, failed_before}
use Rattle.bridge_config.specs.ConfigValue.{ConfigValue}
use Rattle.bridge_results.proofs.PageParts.{then_failed}
use Rattle.results_pbn.specs.Games.{board_tables}
use Rattle.results_pbn.proofs.games.write_tables.Goals as goal

pub returns-in_err-write_scores : goal.returns-in_err-write_scores
unfolding board_tables
returns-in_err-write_scores g c =
    let scoring = ap (λ (k : ConfigValue). k.scoring) c.fields.ensures.fields in
    failed_before _ _ _ _ _ c.from_residual.ensures.0 (rw scoring at c.in_err-write_scores.ensures)

pub returns-in_err-write_totals : goal.returns-in_err-write_totals
unfolding board_tables
returns-in_err-write_totals g c =
    let scoring = ap (λ (k : ConfigValue). k.scoring) c.fields.ensures.fields in
    then_failed _ _ _ _ _ _ _ c.from_residual-in_err-write_totals.ensures.0 (rw scoring at c.in_ok-write_scores.ensures) c.in_err-write_totals.ensures

pub returns : goal.returns
unfolding board_tables
returns g c =
    let scoring = ap (λ (k : ConfigValue). k.scoring) c.fields.ensures.fields in
    then_written _ _ _ _ _ _ (rw scoring at c.in_ok-write_scores.ensures)
    (then_written _ _ _ _ _ _ c.in_ok-write_totals.ensures c.write_text.ensures)
