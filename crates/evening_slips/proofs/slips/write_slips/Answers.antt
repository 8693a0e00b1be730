use Rattle.page_layout.proofs.Walk.{then_written, failed_before}
use Rattle.evening_slips.specs.Slips.{slips_text}
use Rattle.evening_slips.proofs.slips.write_slips.Goals as goal

pub returns-in_err-write_start : goal.returns-in_err-write_start
unfolding slips_text
returns-in_err-write_start g c = failed_before _ _ _ _ _ c.from_residual.ensures.0 c.in_err-write_start.ensures

pub returns-in_err-write_director : goal.returns-in_err-write_director
unfolding slips_text
returns-in_err-write_director g c =
    then_written _ _ _ _ _ _ c.in_ok-write_start.ensures
    (failed_before _ _ _ _ _ c.from_residual-in_err-write_director.ensures.0 c.in_err-write_director.ensures)

pub returns-in_err-write_pairs : goal.returns-in_err-write_pairs
unfolding slips_text
returns-in_err-write_pairs g c =
    then_written _ _ _ _ _ _ c.in_ok-write_start.ensures
    (then_written _ _ _ _ _ _ c.in_ok-write_director.ensures
    (failed_before _ _ _ _ _ c.from_residual-in_err-write_pairs.ensures.0 c.in_err-write_pairs.ensures))

pub returns : goal.returns
unfolding slips_text
returns g c =
    then_written _ _ _ _ _ _ c.in_ok-write_start.ensures
    (then_written _ _ _ _ _ _ c.in_ok-write_director.ensures
    (then_written _ _ _ _ _ _ c.in_ok-write_pairs.ensures c.write_end.ensures))
