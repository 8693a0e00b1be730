use Rattle.std.proofs.Common.{◌≡◌, Option, None, refl, sym, subst}
use Rattle.bridge_config.specs.declared.fields.Key.{Key}
use Rattle.line_replies.specs.declared.short_reply.ShortReply.TheVariants.{BadLine}
use Rattle.line_replies.specs.KeyWord.{key_of_word}
use Rattle.line_replies.specs.ReplyTexts.{short_text}
use Rattle.page_replies.specs.ToldResults.{ResultsTo}
use Rattle.page_replies.proofs.results.write_reply.Goals as goal

pub returns-in-None : goal.returns-in-None
returns-in-None g c =
    let s = c.args.session.now in
    let text = short_text BadLine in
    let none : key_of_word c.args.bytes.now ≡ None = (let read = c.read_key.ensures in let is = c.in-None.is in cc) in (
      text,
      subst (λ (key : Option Key). ResultsTo s key text) (sym none) refl,
      c.write_short.ensures,
    )
