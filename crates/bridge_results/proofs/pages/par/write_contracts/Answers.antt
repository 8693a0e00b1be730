use Rattle.std.proofs.Common.{length, arith}
use Rattle.bridge_results.specs.MakeableText.{par_contract_at}
use Rattle.bridge_results.proofs.WrittenRows.{index_taken, index_failed, indexes_taken}
use Rattle.bridge_results.proofs.pages.par.write_contracts.Goals as goal

pub returns-in_err-write_contract_at : goal.returns-in_err-write_contract_at
returns-in_err-write_contract_at g c =
    index_failed (par_contract_at c.args.format c.args.contracts.now) (length c.args.contracts.now) c.loop-index.index
    (g.W.Write.contents c.args.writer.now) (g.W.Write.contents c.loop-index.writer) (g.W.Write.contents c.write_contract_at.new.writer) c.from_residual.result
    c.from_residual.ensures.0 c.loop-index-test.true c.loop-index.invariant c.in_err-write_contract_at.ensures

pub loop-index-preserved : goal.loop-index-preserved
loop-index-preserved g c =
    index_taken (par_contract_at c.args.format c.args.contracts.now) (length c.args.contracts.now) c.loop-index.index
    (g.W.Write.contents c.args.writer.now) (g.W.Write.contents c.loop-index.writer) (g.W.Write.contents c.write_contract_at.new.writer)
    c.loop-index-test.true c.loop-index.invariant c.in_ok-write_contract_at.ensures

pub returns : goal.returns
returns g c =
    indexes_taken (par_contract_at c.args.format c.args.contracts.now) (length c.args.contracts.now) c.loop-index.index
    (g.W.Write.contents c.args.writer.now) (g.W.Write.contents c.loop-index.writer) (omega arith) c.loop-index.invariant
