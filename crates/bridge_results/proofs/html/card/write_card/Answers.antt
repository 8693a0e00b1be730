use Rattle.page_layout.proofs.Walk.{then_written, failed_before}
use Rattle.bridge_results.proofs.html.card.write_card.Goals as goal

pub returns-in_err-write_top : goal.returns-in_err-write_top
returns-in_err-write_top g c = failed_before _ _ _ _ _ c.from_residual.ensures.0 c.in_err-write_top.ensures

pub returns : goal.returns
returns g c = then_written _ _ _ _ _ _ c.in_ok-write_top.ensures c.write_card_table.ensures
