use Rattle.page_layout.proofs.Walk.{then_written, failed_before}
use Rattle.event_ranking.proofs.sheet.write_ranking.Goals as goal

pub returns-in_err-write_head : goal.returns-in_err-write_head
returns-in_err-write_head g c =
    failed_before _ _ _ _ _ c.from_residual.ensures.0 (rw c.scoring_of-scoring.ensures at c.in_err-write_head.ensures)

pub returns-in_err-write_rows : goal.returns-in_err-write_rows
returns-in_err-write_rows g c =
    then_written _ _ _ _ _ _ (rw c.scoring_of-scoring.ensures at c.in_ok-write_head.ensures)
    (failed_before _ _ _ _ _ c.from_residual-in_err-write_rows.ensures.0 (rw c.scoring_of-scoring.ensures at c.in_err-write_rows.ensures))

pub returns : goal.returns
returns g c =
    then_written _ _ _ _ _ _ (rw c.scoring_of-scoring.ensures at c.in_ok-write_head.ensures)
    (then_written _ _ _ _ _ _ (rw c.scoring_of-scoring.ensures at c.in_ok-write_rows.ensures) c.write_end.ensures)
