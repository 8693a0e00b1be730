use Rattle.page_layout.proofs.Walk.{then_written, failed_before}
use Rattle.event_pbn.proofs.games.write_text_with.Goals as goal

pub returns-in_err-write_text : goal.returns-in_err-write_text
returns-in_err-write_text g c = failed_before _ _ _ _ _ c.from_residual.ensures.0 c.in_err-write_text.ensures

pub returns : goal.returns
returns g c = then_written _ _ _ _ _ _ c.in_ok-write_text.ensures c.write_games.ensures
