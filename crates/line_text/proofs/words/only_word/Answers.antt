use Rattle.std.proofs.Common.{sym}
use Rattle.line_text.proofs.WordReading.{only_word-more}
use Rattle.line_text.proofs.words.only_word.Goals as goal

pub returns-in-Some : goal.returns-in-Some
returns-in-Some c = rw c.in-Some.ensures (sym (only_word-more c.in-Some.field-0.0.now c.in-Some.field-0.1.now))
