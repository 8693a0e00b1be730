use Rattle.std.proofs.Common.{◌≡◌, Err, refl, sym, subst}
use Rattle.session_rules.specs.Answer.{Answer}
use Rattle.session_rules.specs.State.{ranking_asker}
use Rattle.line_replies.specs.declared.short_reply.ShortReply.TheVariants.{Refused}
use Rattle.line_replies.specs.ReplyTexts.{short_text}
use Rattle.page_replies.specs.ToldResults.{ResultsBy}
use Rattle.page_replies.proofs.results.write_to.Goals as goal

pub returns-in-Err : goal.returns-in-Err
returns-in-Err g c =
    let s = c.args.session.now in
    let text = short_text (Refused c.in-Err.refused) in
    let refused : ranking_asker s.configuration s.round c.args.key.0 ≡ Err c.in-Err.refused
    = (let asked = c.check_asker.ensures in let is = c.in-Err.is in let config = c.config.ensures in let round = c.round.ensures in cc) in (
      text,
      subst (λ (answer : Answer). ResultsBy s answer text) (sym refused) refl,
      c.write_short.ensures,
    )
