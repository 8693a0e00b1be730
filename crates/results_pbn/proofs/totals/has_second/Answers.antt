use Rattle.std.proofs.Common.{sym, ◌∙◌}
use Rattle.bridge_results.proofs.PageParts.{mapped_there}
use Rattle.results_pbn.proofs.totals.has_second.Goals as goal

pub returns : goal.returns
returns c = c.is_some.ensures ∙ sym (mapped_there c.args.totals.now.second (λ ranked. ranked.items))
