use Rattle.std.proofs.Common.{ap, length}
use Rattle.bridge_config.specs.ConfigValue.{ConfigValue}
use Rattle.evening_commands.specs.People.{fits}
use Rattle.club_commands.proofs.results.write_page.Goals as goal

pub returns-then-has_pairs : goal.returns-then-has_pairs
returns-then-has_pairs g c =
    let same = ap (λ (k : ConfigValue). fits c.args.names (length k.pairs)) c.config.ensures in
    rw (← same, ← c.has_pairs.ensures.fits, c.if-has_pairs.true) c.write_asked.ensures

pub returns-else-has_pairs : goal.returns-else-has_pairs
returns-else-has_pairs g c =
    let same = ap (λ (k : ConfigValue). fits c.args.names (length k.pairs)) c.config.ensures in
    rw (← same, ← c.has_pairs.ensures.fits, c.if-has_pairs.false) c.refuse_list.ensures
