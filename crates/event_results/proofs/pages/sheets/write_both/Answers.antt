use Rattle.page_layout.proofs.Walk.{then_written, failed_before}
use Rattle.event_results.proofs.pages.sheets.write_both.Goals as goal

pub returns-in_err-write_ranked : goal.returns-in_err-write_ranked
returns-in_err-write_ranked g c =
    failed_before _ _ _ _ _ c.from_residual.ensures.0 c.in_err-write_ranked.ensures

pub returns : goal.returns
returns g c =
    then_written _ _ _ _ _ _ c.in_ok-write_ranked.ensures c.write_ranked-2.ensures
