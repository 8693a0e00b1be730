use Rattle.std.proofs.Common.{subst}
use Rattle.std.specs.Option.{option_copied}
use Rattle.line_text.specs.Streams.{stream, Written}
use Rattle.bridge_config.specs.ConfigValue.{ConfigValue}
use Rattle.bridge_results.specs.HtmlCourse.{course_html}
use Rattle.bridge_results.proofs.html.recorded.write_course_by.Goals as goal

pub returns : goal.returns
returns g c =
    subst (λ (k : ConfigValue). Written (stream g.W.Write.contents c.args.writer.now c.write_course.new.writer) (course_html c.args.names c.args.costs.now k.pairs c.args.play.now c.args.known.now.auction.now (option_copied c.args.known.now.play)) c.write_course.result)
    c.fields-fields.ensures.fields (rw c.as_slice-pairs.ensures.value at c.write_course.ensures)
