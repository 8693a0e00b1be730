use Rattle.page_layout.proofs.Walk.{then_written, failed_before}
use Rattle.bridge_results.proofs.PageParts.{then_failed}
use Rattle.bridge_results.proofs.html.course.write_auction.Goals as goal

pub returns-in_err-write_auction_head : goal.returns-in_err-write_auction_head
returns-in_err-write_auction_head g c =
    failed_before _ _ _ _ _ c.from_residual.ensures.0 (rw c.dealer.ensures at c.in_err-write_auction_head.ensures)

pub returns-in_err-write_call_rows : goal.returns-in_err-write_call_rows
returns-in_err-write_call_rows g c =
    then_failed _ _ _ _ _ _ _ c.from_residual-in_err-write_call_rows.ensures.0 (rw c.dealer.ensures at c.in_ok-write_auction_head.ensures)
    (rw c.calls.ensures.calls at c.in_err-write_call_rows.ensures)

pub returns : goal.returns
returns g c =
    then_written _ _ _ _ _ _ (rw c.dealer.ensures at c.in_ok-write_auction_head.ensures)
    (then_written _ _ _ _ _ _ (rw c.calls.ensures.calls at c.in_ok-write_call_rows.ensures) c.write_table_end.ensures)
