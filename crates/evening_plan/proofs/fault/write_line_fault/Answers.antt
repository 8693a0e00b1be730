use Rattle.page_layout.proofs.Walk.{then_written, failed_before}
use Rattle.evening_plan.specs.FaultText.{line_fault}
use Rattle.evening_plan.proofs.Written.{then_failed}
use Rattle.evening_plan.proofs.fault.write_line_fault.Goals as goal

pub returns-in_err-write_shown : goal.returns-in_err-write_shown
unfolding line_fault
returns-in_err-write_shown g c = failed_before _ _ _ _ _ c.from_residual.ensures.0 c.in_err-write_shown.ensures

pub returns-in_err-write_text : goal.returns-in_err-write_text
unfolding line_fault
returns-in_err-write_text g c =
    let rule = rw (c.as_bytes.ensures.value, c.rule_of.ensures) at c.in_err-write_text.ensures in
    then_failed _ _ _ _ _ _ _ c.from_residual-in_err-write_text.ensures.0 c.in_ok-write_shown.ensures rule

pub returns : goal.returns
unfolding line_fault
returns g c =
    let rule = rw (c.as_bytes.ensures.value, c.rule_of.ensures) at c.in_ok-write_text.ensures in
    then_written _ _ _ _ _ _ c.in_ok-write_shown.ensures (then_written _ _ _ _ _ _ rule c.write_reason.ensures)
