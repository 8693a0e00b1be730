use Rattle.std.proofs.Common.{◌≡◌, [], length, Option, Some, sym, ap, ◌∙◌, subst}
use Rattle.std.specs.Prelude.{slice_get}
use Rattle.std.specs.Option.{option_copied, option_map_or}
use Rattle.line_text.specs.Streams.{stream, Written}
use Rattle.session_rules.specs.State.{SessionValue}
use Rattle.event_results.specs.EventHead.{event_head}
use Rattle.event_results.proofs.pages.page.write_first_event.Goals as goal

pub returns-in-Some : goal.returns-in-Some
returns-in-Some g c =
    let there : slice_get c.args.sections.now 0 ≡ Some c.in-Some.session.now = sym c.first.ensures.value ∙ ap option_copied c.in-Some.is in
    subst (λ (o : Option SessionValue). Written (stream g.W.Write.contents c.args.writer.now c.write_head.new.writer) (option_map_or (λ (s : SessionValue). event_head c.args.format s.configuration (length c.args.sections.now)) o []) c.write_head.result)
    (sym there) (rw c.config.ensures at c.write_head.ensures)
