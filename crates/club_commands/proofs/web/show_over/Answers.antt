use Rattle.std.proofs.Common.{◌∙◌, ap, length}
use Rattle.bridge_config.specs.ConfigValue.{ConfigValue}
use Rattle.evening_commands.specs.People.{fits}
use Rattle.session_rules.specs.State.{SessionValue}
use Rattle.club_commands.proofs.web.show_over.Goals as goal

pub returns-then-has_pairs : goal.returns-then-has_pairs
returns-then-has_pairs g c =
    let same = ap (λ (k : ConfigValue). fits c.args.shown.now.names (length k.pairs)) (c.config.ensures ∙ ap (λ (s : SessionValue). s.configuration) c.state.ensures.state) in
    let shown = c.show_named.ensures in
    (shown.0, shown.1, rw (← same, ← c.has_pairs.ensures.fits, c.if-has_pairs.true) shown.2)

pub returns : goal.returns
returns g c =
    let same = ap (λ (k : ConfigValue). fits c.args.shown.now.names (length k.pairs)) (c.config.ensures ∙ ap (λ (s : SessionValue). s.configuration) c.state.ensures.state) in
    let shown = c.show_misfit.ensures in
    (shown.0, shown.1, rw (← same, ← c.has_pairs.ensures.fits, c.if-has_pairs.false) shown.2)
