use Rattle.std.proofs.Common.{arith}
use Rattle.bridge_endings.proofs.Kept.{kept_or_same, with_or_same, with_again, same_capacity, still_kept}
use Rattle.bridge_endings.proofs.cache.Cache.keep.Goals as goal

pub invariant_of-self : goal.invariant_of-self
invariant_of-self c =
    still_kept c.self.inside.known c.put.new.self c.key.result (record { least = c.args.worth; most = c.args.worth }) c.args.ending.now c.key.ensures.key c.put.result c.put.ensures.entries c.put.ensures.err c.self.invariant c.key.ensures.ending (record { least = omega arith; most = omega arith })

pub returns-clause-keeping : goal.returns-clause-keeping
returns-clause-keeping c =
    let old = c.self.inside.known in
    let new = c.put.new.self in
    let ending = c.args.ending.now in
    let kept = still_kept old new c.key.result (record { least = c.args.worth; most = c.args.worth }) ending c.key.ensures.key c.put.result c.put.ensures.entries c.put.ensures.err c.self.invariant c.key.ensures.ending (record { least = omega arith; most = omega arith }) in
    rw (← c.self.view_is) (record {
      kept = kept_or_same old new c.key.result (record { least = c.args.worth; most = c.args.worth }) ending c.key.ensures.key c.put.result c.put.ensures.entries c.put.ensures.err;
      others = with_or_same old new c.key.result (record { least = c.args.worth; most = c.args.worth }) ending c.key.ensures.key c.put.result c.put.ensures.entries c.put.ensures.err;
      again = with_again old new c.key.result (record { least = c.args.worth; most = c.args.worth }) ending c.key.ensures.key c.put.result c.put.ensures.entries c.put.ensures.succeeds;
      capacity = same_capacity old new c.key.result (record { least = c.args.worth; most = c.args.worth }) ending c.key.ensures.key c.put.result c.put.ensures.entries c.put.ensures.err;
      room = kept.few;
      true_bounds = kept.each_true;
    })
