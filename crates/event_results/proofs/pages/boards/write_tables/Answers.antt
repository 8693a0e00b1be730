use Rattle.page_layout.proofs.Walk.{then_written, failed_before}
use Rattle.event_results.proofs.pages.boards.write_tables.Goals as goal

pub returns-in_err-write_traveller : goal.returns-in_err-write_traveller
returns-in_err-write_traveller g c =
    failed_before _ _ _ _ _ c.from_residual.ensures.0 (rw c.scoring_of.ensures at c.in_err-write_traveller.ensures)

pub returns : goal.returns
returns g c =
    then_written _ _ _ _ _ _ (rw c.scoring_of.ensures at c.in_ok-write_traveller.ensures) c.write_end.ensures
