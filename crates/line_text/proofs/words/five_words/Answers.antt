use Rattle.std.proofs.Common.{sym}
use Rattle.line_text.proofs.WordReading.{five_words-only, five_words-some}
use Rattle.line_text.proofs.words.five_words.Goals as goal

pub returns-in_err-fifth : goal.returns-in_err-fifth
returns-in_err-fifth c =
    rw (c.from_residual-in_err-fifth.ensures, c.in_ok-first.ensures, c.in_ok-second.ensures, c.in_ok-third.ensures, c.in_ok-fourth.ensures)
    (sym (five_words-only c.in_ok-first.first.now c.in_ok-second.second.now c.in_ok-third.third.now c.in_ok-fourth.fourth.now _ (sym c.in_err-fifth.ensures)))

pub returns : goal.returns
returns c =
    rw (c.in_ok-first.ensures, c.in_ok-second.ensures, c.in_ok-third.ensures, c.in_ok-fourth.ensures)
    (sym (five_words-some c.in_ok-first.first.now c.in_ok-second.second.now c.in_ok-third.third.now c.in_ok-fourth.fourth.now c.in_ok-fifth.fifth.now _ (sym c.in_ok-fifth.ensures)))
