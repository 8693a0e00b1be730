use Rattle.std.proofs.Common.{◌≡◌, ◌≤◌, ◌*◌, ◌-◌, ◌++◌}
use Rattle.arrayvec.specs.ArrayVec.{array_vec_len}
use Rattle.bridge_par.specs.Par.{par_contracts, reaching_from}
use Rattle.bridge_par.proofs.par_result.par_contracts.Given as goal

abbrev pub invariant-loop-number : goal.invariant-loop-number
invariant-loop-number l = record {
  items : l.contracts.items ++ reaching_from l.table l.vulnerability l.par (35 - l.number) ≡ par_contracts l.table l.vulnerability l.par;
  few : array_vec_len l.contracts ≤ 4 * l.number;
}
