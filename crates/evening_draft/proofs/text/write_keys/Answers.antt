use Rattle.page_layout.proofs.Walk.{then_written, failed_before}
use Rattle.evening_draft.proofs.text.write_keys.Goals as goal

pub returns-in_err-write_director : goal.returns-in_err-write_director
returns-in_err-write_director g c = failed_before _ _ _ _ _ c.from_residual.ensures.0 c.in_err-write_director.ensures

pub returns : goal.returns
returns g c = then_written _ _ _ _ _ _ c.in_ok-write_director.ensures c.write_pairs.ensures
