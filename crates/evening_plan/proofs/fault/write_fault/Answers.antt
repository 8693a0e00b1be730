use Rattle.std.proofs.Common.{List, ℕ, subst}
use Rattle.std.specs.Str.Lines.{lines}
use Rattle.line_text.specs.Streams.{stream, Written}
use Rattle.evening_plan.proofs.Lines.{line_at_fault}
use Rattle.evening_plan.proofs.fault.write_fault.Goals as goal

pub returns-in_default : goal.returns-in_default
returns-in_default g c =
    subst (λ (text : List ℕ). Written (stream g.W.Write.contents c.args.writer.now c.write_line_fault.new.writer) text c.write_line_fault.result)
    (line_at_fault (lines c.args.text.now) c.args.fault.line c.args.fault.cause c.in_default.not-TooLong)
    (rw (c.line_at-line.ensures, c.kind_at.ensures) at c.write_line_fault.ensures)
