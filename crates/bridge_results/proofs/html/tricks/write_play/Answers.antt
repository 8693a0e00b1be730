use Rattle.page_layout.proofs.Walk.{then_written, failed_before}
use Rattle.bridge_results.proofs.html.tricks.write_play.Goals as goal

pub returns-in_err-write_tricks_head : goal.returns-in_err-write_tricks_head
returns-in_err-write_tricks_head g c =
    failed_before _ _ _ _ _ c.from_residual.ensures.0 c.in_err-write_tricks_head.ensures

pub returns-in_err-write_tricks : goal.returns-in_err-write_tricks
returns-in_err-write_tricks g c =
    then_written _ _ _ _ _ _ c.in_ok-write_tricks_head.ensures
    (failed_before _ _ _ _ _ c.from_residual-in_err-write_tricks.ensures.0 c.in_err-write_tricks.ensures)

pub returns : goal.returns
returns g c =
    then_written _ _ _ _ _ _ c.in_ok-write_tricks_head.ensures
    (then_written _ _ _ _ _ _ c.in_ok-write_tricks.ensures c.write_play_end.ensures)
