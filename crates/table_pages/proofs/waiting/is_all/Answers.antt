use Rattle.std.proofs.Common.{◌++◌}
use Rattle.table_pages.proofs.ToldNow.{other_behind}
use Rattle.table_pages.proofs.waiting.is_all.Goals as goal

pub returns-in-Some-clause-other : goal.returns-in-Some-clause-other
returns-in-Some-clause-other c =
    λ fails. other_behind c.args.text.now c.args.one.now c.in-Some.rest.now (c.args.other.now ++ c.args.third.now) c.in-Some.ensures (c.is_both.ensures.other fails)
