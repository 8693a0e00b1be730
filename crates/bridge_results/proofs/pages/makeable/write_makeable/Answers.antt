use Rattle.page_layout.proofs.Walk.{then_written, failed_before}
use Rattle.bridge_results.proofs.pages.makeable.write_makeable.Goals as goal

pub returns-in_err-write_table : goal.returns-in_err-write_table
returns-in_err-write_table g c =
    failed_before _ _ _ _ _ c.from_residual.ensures.0 c.in_err-write_table.ensures

pub returns : goal.returns
returns g c = then_written _ _ _ _ _ _ c.in_ok-write_table.ensures c.write_board_par.ensures
