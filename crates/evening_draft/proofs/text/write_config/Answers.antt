use Rattle.std.proofs.Common.{◌≡◌, ap, subst}
use Rattle.page_layout.proofs.Walk.{then_written, failed_before}
use Rattle.line_text.specs.Streams.{between, Takes, TakesPrefix}
use Rattle.line_text.proofs.Streams.{takes_prefix, prefix_longer, written_error}
use Rattle.bridge_movement.specs.MovementValue.{MovementValue}
use Rattle.evening_draft.specs.ConfigText.{text_of, movement_lines}
use Rattle.evening_draft.proofs.ConfigSpelled.{is_written}
use Rattle.evening_draft.proofs.text.write_config.Goals as goal

pub returns-in_err-write_heading : goal.returns-in_err-write_heading
returns-in_err-write_heading g c =
    is_written c.form_of-form.result c.args.config.now c.fields.result.now.movement _ _
    (ap (λ v. v.movement) c.fields.ensures.fields) c.form_of-form.ensures c.fields.ensures.limits
    (failed_before _ _ _ _ _ c.from_residual.ensures.0 c.in_err-write_heading.ensures)

pub returns-in_err-write_movement : goal.returns-in_err-write_movement
returns-in_err-write_movement g c =
    let form = c.form_of-form.result in
    let same : c.fields.result.now.movement ≡ c.args.config.now.movement = ap (λ v. v.movement) c.fields.ensures.fields in
    let P : MovementValue → Type 0 = λ m. TakesPrefix (between (g.W.Write.contents c.write_heading.new.writer) (g.W.Write.contents c.write_movement.new.writer)) (text_of (movement_lines form m)) in
    is_written form c.args.config.now c.fields.result.now.movement _ _ same c.form_of-form.ensures c.fields.ensures.limits
    (written_error _ _ _ c.from_residual-in_err-write_movement.ensures.0
    (takes_prefix _ _ _ _ _ c.in_ok-write_heading.ensures (prefix_longer _ _ _ _ (subst P same c.in_err-write_movement.ensures))))

pub returns : goal.returns
returns g c =
    let form = c.form_of-form.result in
    let same : c.fields.result.now.movement ≡ c.args.config.now.movement = ap (λ v. v.movement) c.fields.ensures.fields in
    let P : MovementValue → Type 0 = λ m. Takes (between (g.W.Write.contents c.write_heading.new.writer) (g.W.Write.contents c.write_movement.new.writer)) (text_of (movement_lines form m)) in
    is_written form c.args.config.now c.fields.result.now.movement _ _ same c.form_of-form.ensures c.fields.ensures.limits
    (then_written _ _ _ _ _ _ c.in_ok-write_heading.ensures
    (then_written _ _ _ _ _ _ (subst P same c.in_ok-write_movement.ensures) c.write_people.ensures))
