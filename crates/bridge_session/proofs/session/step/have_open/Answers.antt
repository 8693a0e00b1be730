use Rattle.std.proofs.Common.{rules, tests, Vec, Global}
use Rattle.std.specs.List.{list_any}
use Rattle.std.proofs.lemmas.Iterator.{YieldsList-from_slice, YieldsList-from_take}
use Rattle.std.proofs.lemmas.Iterator.Adapters.{YieldsList-from_skip}
use Rattle.std.proofs.lemmas.Iterator.Search.{any_from_yields_List}
use Rattle.bridge_table.specs.declared.record.Record.{Record}
use Rattle.bridge_table.specs.Kept.{is_kept_open}
use Rattle.bridge_session.proofs.session.step.have_open.Goals as goal

pub returns : goal.returns
returns c =
    any_from_yields_List (λ (table : Vec Record Global). list_any is_kept_open table.items) _ _ c.any.result c.any.ensures.ran
    (YieldsList-from_take c.args.count (YieldsList-from_skip c.args.start (YieldsList-from_slice c.args.tables.now cc) cc) cc)
    (λ x b q k. search (rules, tests))
