use Rattle.std.proofs.Common.{◌∙◌, ap, length}
use Rattle.bridge_config.specs.ConfigValue.{ConfigValue}
use Rattle.evening_commands.specs.People.{fits}
use Rattle.session_rules.specs.State.{SessionValue}
use Rattle.club_commands.proofs.pair_web.show_joined.Goals as goal

pub returns-then-has_pairs : goal.returns-then-has_pairs
returns-then-has_pairs g c =
    let same = ap (λ (k : ConfigValue). fits c.args.shown.now.names (length k.pairs)) (c.config.ensures ∙ ap (λ (s : SessionValue). s.configuration) c.state.ensures.state) in
    rw (← same, ← c.has_pairs.ensures.fits, c.if-has_pairs.true) c.show_joined_with.ensures

pub returns : goal.returns
returns g c =
    let same = ap (λ (k : ConfigValue). fits c.args.shown.now.names (length k.pairs)) (c.config.ensures ∙ ap (λ (s : SessionValue). s.configuration) c.state.ensures.state) in
    rw (← same, ← c.has_pairs.ensures.fits, c.if-has_pairs.false) c.refuse_list.ensures
