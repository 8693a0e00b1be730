use Rattle.page_layout.proofs.Walk.{then_written, failed_before}
use Rattle.makeable_deals.proofs.games.write_whole_line.Goals as goal

pub returns-in_err-write_piece : goal.returns-in_err-write_piece
returns-in_err-write_piece g c = failed_before _ _ _ _ _ c.from_residual.ensures.0 c.in_err-write_piece.ensures

pub returns : goal.returns
returns g c = then_written _ _ _ _ _ _ c.in_ok-write_piece.ensures c.write_piece-2.ensures
