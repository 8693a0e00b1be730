use Rattle.std.proofs.Common.{sym, length}
use Rattle.std.proofs.lemmas.Bool.{eqb-false}
use Rattle.line_text.proofs.Texts.{lines_first, lines_last}
use Rattle.line_text.proofs.lines.first_line.Goals as goal

pub returns-in-Some : goal.returns-in-Some
returns-in-Some c =
    rw c.without_return.ensures (lines_first c.args.text.now c.in-Some.line.now c.in-Some.rest.now c.in-Some.ensures.parts c.in-Some.ensures.first)

pub returns-in-None-2 : goal.returns-in-None-2
returns-in-None-2 c = lines_last c.args.text.now c.in-None-2.ensures.none
    (eqb-false (length c.args.text.now) 0 (sym c.if-is_empty.ensures))
