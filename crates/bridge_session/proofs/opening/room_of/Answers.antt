use Rattle.std.proofs.Common.{◌*◌, None, map, ap, ◌∙◌}
use Rattle.std.specs.Prelude.{replicate}
use Rattle.bridge_movement.specs.declared.shape.Shape.{Shape}
use Rattle.bridge_config.specs.ConfigValue.{ConfigValue}
use Rattle.bridge_session.specs.KeptSession.{new_table}
use Rattle.bridge_session.proofs.opening.room_of.Goals as goal

pub returns-clause-deals : goal.returns-clause-deals
returns-clause-deals c =
    let known = c.fields-fields.ensures.fields in
    let sets = c.from.ensures ∙ ap (λ (shape : Shape). shape.sets) c.shape.ensures.shape ∙ ap (λ (k : ConfigValue). k.movement.shape.sets) known in
    let boards = c.from-2.ensures ∙ ap (λ (k : ConfigValue). k.boards) known in
    c.in_ok-deals.ensures
    ∙ ap (λ n. replicate (n * c.from-2.result) None) sets
    ∙ ap (λ n. replicate (c.args.config.now.movement.shape.sets * n) None) boards

pub returns-clause-tables : goal.returns-clause-tables
returns-clause-tables c =
    let known = c.fields-fields.ensures.fields in
    c.in_ok-tables.ensures
    ∙ ap (map (new_table c.fields-fields.result.now.boards)) c.rows.ensures.rows
    ∙ ap (λ (k : ConfigValue). map (new_table k.boards) k.movement.rows) known
