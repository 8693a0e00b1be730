use Rattle.std.proofs.lemmas.Int.{to_z-of_z}
use mir.Syntax.{w32}
use Rattle.page_layout.proofs.Walk.{then_written, failed_before}
use Rattle.bridge_results.proofs.PageParts.{then_failed}
use Rattle.bridge_results.proofs.pages.par.write_par.Goals as goal

pub returns-in_err-write_contracts : goal.returns-in_err-write_contracts
returns-in_err-write_contracts g c =
    then_failed _ _ _ _ _ _ _ c.from_residual-in_err-write_contracts.ensures.0
    (rw (to_z-of_z w32 c.args.score c.ranges.score) at c.in_ok-write_par_start.ensures) c.in_err-write_contracts.ensures

pub returns : goal.returns
returns g c =
    then_written _ _ _ _ _ _ (rw (to_z-of_z w32 c.args.score c.ranges.score) at c.in_ok-write_par_start.ensures)
    (then_written _ _ _ _ _ _ c.in_ok-write_contracts.ensures c.write_par_end.ensures)

pub returns-in_err-write_par_start : goal.returns-in_err-write_par_start
returns-in_err-write_par_start g c =
    failed_before _ _ _ _ _ c.from_residual.ensures.0 (rw (to_z-of_z w32 c.args.score c.ranges.score) at c.in_err-write_par_start.ensures)
