use Rattle.page_layout.proofs.Walk.{then_written, failed_before}
use Rattle.bridge_results.proofs.pages.board.write_deal.Goals as goal

pub returns-in_err-write_hands : goal.returns-in_err-write_hands
returns-in_err-write_hands g c =
    failed_before _ _ _ _ _ c.from_residual.ensures.0 c.in_err-write_hands.ensures

pub returns : goal.returns
returns g c = then_written _ _ _ _ _ _ c.in_ok-write_hands.ensures c.write_known.ensures
