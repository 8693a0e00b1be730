use Rattle.std.proofs.Common.{Option, ap, subst, ◌∙◌}
use Rattle.std.specs.Prelude.{option_and_then}
use Rattle.line_text.specs.Streams.{stream, Written}
use Rattle.bridge_config.specs.ConfigValue.{ConfigValue}
use Rattle.session_rules.specs.declared.action.PlayId.{PlayId}
use Rattle.session_rules.specs.State.{record_of}
use Rattle.bridge_results.specs.HtmlCourse.{shown_id, found_html}
use Rattle.bridge_results.proofs.html.recorded.write_course_on.Goals as goal

pub returns-in-Some : goal.returns-in-Some
returns-in-Some g c =
    let s = c.args.session.now in
    subst (λ (id : Option PlayId). Written (stream g.W.Write.contents c.args.writer.now c.write_found.new.writer) (found_html c.args.names c.args.costs.now s c.args.play.now (option_and_then (record_of s) id)) c.write_found.result)
    (c.in-Some.ensures ∙ ap (λ (k : ConfigValue). shown_id k c.args.play.now) c.config.ensures) c.write_found.ensures

pub returns-in-None : goal.returns-in-None
returns-in-None g c =
    let s = c.args.session.now in
    subst (λ (id : Option PlayId). Written (stream g.W.Write.contents c.args.writer.now c.write_text.new.writer) (found_html c.args.names c.args.costs.now s c.args.play.now (option_and_then (record_of s) id)) c.write_text.result)
    (c.in-None.ensures ∙ ap (λ (k : ConfigValue). shown_id k c.args.play.now) c.config.ensures) c.write_text.ensures
