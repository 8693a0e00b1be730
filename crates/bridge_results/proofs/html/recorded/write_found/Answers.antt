use Rattle.std.proofs.Common.{List, ℕ, subst}
use Rattle.std.specs.Option.{option_copied}
use Rattle.line_text.specs.Streams.{stream, Written}
use Rattle.session_rules.specs.State.{record_of}
use Rattle.bridge_results.proofs.HtmlParts.{found_some, found_none}
use Rattle.bridge_results.proofs.html.recorded.write_found.Goals as goal

pub returns-in-Some : goal.returns-in-Some
returns-in-Some g c =
    let s = c.args.session.now in
    subst (λ (text : List ℕ). Written (stream g.W.Write.contents c.args.writer.now c.write_course_by.new.writer) text c.write_course_by.result)
    (found_some c.args.names c.args.costs.now s c.args.play.now c.in-Some.known.auction.now (option_copied c.in-Some.known.play) (record_of s c.args.id) c.in-Some.ensures.auction c.in-Some.ensures.play)
    (rw c.config.ensures at c.write_course_by.ensures)

pub returns-in-None : goal.returns-in-None
returns-in-None g c =
    let s = c.args.session.now in
    subst (λ (text : List ℕ). Written (stream g.W.Write.contents c.args.writer.now c.write_text.new.writer) text c.write_text.result)
    (found_none c.args.names c.args.costs.now s c.args.play.now (record_of s c.args.id) c.in-None.ensures.auction)
    c.write_text.ensures
