use Rattle.page_layout.proofs.Walk.{then_written, failed_before}
use Rattle.bridge_results.proofs.PageParts.{then_failed}
use Rattle.event_pbn.specs.EventGames.{board_tables}
use Rattle.event_pbn.proofs.games.write_tables.Goals as goal

pub returns-in_err-write_section_scores : goal.returns-in_err-write_section_scores
unfolding board_tables
returns-in_err-write_section_scores g c =
    failed_before _ _ _ _ _ c.from_residual.ensures.0 (rw c.scoring_of.ensures at c.in_err-write_section_scores.ensures)

pub returns-in_err-write_totals : goal.returns-in_err-write_totals
unfolding board_tables
returns-in_err-write_totals g c =
    then_failed _ _ _ _ _ _ _ c.from_residual-in_err-write_totals.ensures.0 (rw c.scoring_of.ensures at c.in_ok-write_section_scores.ensures) c.in_err-write_totals.ensures

pub returns : goal.returns
unfolding board_tables
returns g c =
    then_written _ _ _ _ _ _ (rw c.scoring_of.ensures at c.in_ok-write_section_scores.ensures)
    (then_written _ _ _ _ _ _ c.in_ok-write_totals.ensures c.write_text.ensures)
