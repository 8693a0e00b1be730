use Rattle.std.proofs.Common.{◌≡◌, ◌∙◌, ◌++◌, sym, ap, arith, append-nil}
use Rattle.line_replies.specs.declared.short_reply.ShortReply.TheVariants as short
use Rattle.table_server.specs.Answered.{disk_errors}
use Rattle.line_replies.specs.ReplyTexts.{short_text}
use Rattle.table_server.proofs.Folds.{errors_append}
use Rattle.table_server.proofs.held_replies.push_disk_errors.Goals as goal

pub loop-preserved : goal.loop-preserved
loop-preserved c =
    let pushed : c.push_to.new.out.bytes ≡ c.loop.text.bytes ++ short_text short.Disk = c.push_to.ensures.text in record {
      text = pushed ∙ ap (λ more. c.loop.text.bytes ++ more) (sym (append-nil (short_text short.Disk)))
          ∙ ap (λ text. text ++ disk_errors 1) c.loop.invariant.text ∙ sym (errors_append c.loop.counter 1);
      room = omega (arith, c.push_to.ensures.room, c.loop.invariant.room);
    }
