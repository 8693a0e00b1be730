use Rattle.page_layout.proofs.Walk.{then_written, failed_before}
use Rattle.evening_plan.specs.PlanText.{plan_text}
use Rattle.evening_plan.specs.EventText.{event_text}
use Rattle.evening_plan.proofs.plan.write_plan_with.Goals as goal

pub returns-in_err-write_event : goal.returns-in_err-write_event
unfolding plan_text event_text
returns-in_err-write_event g c = failed_before _ _ _ _ _ c.from_residual.ensures.0 c.in_err-write_event.ensures

pub returns : goal.returns
unfolding plan_text event_text
returns g c = then_written _ _ _ _ _ _ c.in_ok-write_event.ensures c.write_pairs.ensures
