use Rattle.std.proofs.Common.{ap, ◌∙◌}
use Rattle.std.proofs.lemmas.List.{get_or_read}
use Rattle.bridge_config.specs.ConfigValue.{ConfigValue}
use Rattle.bridge_movement.specs.declared.shape.Shape.{Shape}
use Rattle.bridge_ranking.specs.Ranking.{pairs_of_field}
use Rattle.session_rules.specs.State.{SessionValue}
use Rattle.event_ranking.proofs.event.pairs_at.Goals as goal

pub returns-clause-pairs : goal.returns-clause-pairs
returns-clause-pairs c = λ d.
    let session = c.index-sections-index.result in
    let shape = c.shape.ensures.shape ∙ ap (λ (k : ConfigValue). k.movement.shape) (c.fields.ensures.fields ∙ c.config.ensures) in
    c.pairs_of_field.ensures.pairs
    ∙ ap (λ (s : Shape). pairs_of_field s c.args.field) shape
    ∙ ap (λ (s : SessionValue). pairs_of_field s.configuration.movement.shape c.args.field) (get_or_read c.args.sections.now c.args.index session c.requires c.index-sections-index.is d)
