use Rattle.std.proofs.Common.{sym, ◌∙◌}
use Rattle.bridge_endings.proofs.Kept.{found_true}
use Rattle.bridge_endings.proofs.cache.Cache.bounds.Goals as goal

pub returns-clause-between : goal.returns-clause-between
returns-clause-between c =
    found_true c.self.inside.known.entries c.args.ending.now c.copied.result c.self.invariant.each_true c.key.ensures.ending (rw (← c.key.ensures.key) (sym (c.copied.ensures ∙ c.peek.ensures)))
