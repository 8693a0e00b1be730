use Rattle.page_layout.proofs.Walk.{then_written, failed_before}
use Rattle.bridge_results.specs.ResultsText.{front_text}
use Rattle.bridge_results.proofs.pages.page.write_front.Goals as goal

pub returns-in_err-write_event : goal.returns-in_err-write_event
unfolding front_text
returns-in_err-write_event g c = failed_before _ _ _ _ _ c.from_residual.ensures.0 c.in_err-write_event.ensures

pub returns : goal.returns
unfolding front_text
returns g c = then_written _ _ _ _ _ _ c.in_ok-write_event.ensures c.write_rankings.ensures
