use Rattle.page_layout.proofs.Walk.{then_written, failed_before}
use Rattle.bridge_results.proofs.html.course.write_calls_and_cards.Goals as goal

pub returns-in_err-write_auction : goal.returns-in_err-write_auction
returns-in_err-write_auction g c =
    failed_before _ _ _ _ _ c.from_residual.ensures.0 c.in_err-write_auction.ensures

pub returns-in_err-write_play_part : goal.returns-in_err-write_play_part
returns-in_err-write_play_part g c =
    then_written _ _ _ _ _ _ c.in_ok-write_auction.ensures
    (failed_before _ _ _ _ _ c.from_residual-in_err-write_play_part.ensures.0 c.in_err-write_play_part.ensures)

pub returns : goal.returns
returns g c =
    then_written _ _ _ _ _ _ c.in_ok-write_auction.ensures
    (then_written _ _ _ _ _ _ c.in_ok-write_play_part.ensures c.write_text.ensures)
