use Rattle.std.proofs.Common.{◌≡◌, ◌≤◌, ◌+◌, ◌*◌, ◌++◌, take}
use Rattle.std.specs.Prelude.{flat_map}
use Rattle.arrayvec.specs.ArrayVec.{array_vec_len}
use Rattle.makeable_deals.specs.Makeable.{contract_behind}
use Rattle.makeable_deals.proofs.line.push_contracts.Given as goal

abbrev pub invariant-loop-reaching : goal.invariant-loop-reaching
invariant-loop-reaching l = record {
  text : l.text.items ≡ l.fn.text.items ++ flat_map contract_behind (take l.reaching-index l.contracts);
  room : array_vec_len l.text ≤ array_vec_len l.fn.text + 8 * l.reaching-index;
}
