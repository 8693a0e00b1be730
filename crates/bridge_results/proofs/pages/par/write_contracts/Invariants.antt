use Rattle.std.proofs.Common.{take, length}
use Rattle.std.specs.Prelude.{flat_map}
use Rattle.std.specs.List.{range_with_len}
use Rattle.line_text.specs.Streams.{between, Takes}
use Rattle.bridge_results.specs.MakeableText.{par_contract_at}
use Rattle.bridge_results.proofs.pages.par.write_contracts.Given as goal

abbrev pub invariant-loop-index : goal.invariant-loop-index
invariant-loop-index g l =
    Takes (between (g.W.Write.contents l.fn.writer) (g.W.Write.contents l.writer)) (flat_map (par_contract_at l.format l.contracts) (take l.index (range_with_len 0 (length l.contracts))))
