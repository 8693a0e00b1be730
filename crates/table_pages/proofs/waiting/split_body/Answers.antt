use Rattle.std.proofs.Common.{sym, ap, ◌∙◌}
use Rattle.table_pages.specs.FirstLine.{first_line, behind_line}
use Rattle.table_pages.proofs.BodyLines.{first_there, behind_there, first_alone, behind_alone}
use Rattle.table_pages.proofs.waiting.split_body.Goals as goal

pub returns-in-Some-clause-first : goal.returns-in-Some-clause-first
returns-in-Some-clause-first c = sym (ap first_line c.in-Some.ensures.parts ∙ first_there _ _ c.in-Some.ensures.first)

pub returns-in-Some-clause-behind : goal.returns-in-Some-clause-behind
returns-in-Some-clause-behind c = sym (ap behind_line c.in-Some.ensures.parts ∙ behind_there _ _ c.in-Some.ensures.first)

pub returns-in-None-clause-first : goal.returns-in-None-clause-first
returns-in-None-clause-first c = sym (first_alone _ c.in-None.ensures.none)

pub returns-in-None-clause-behind : goal.returns-in-None-clause-behind
returns-in-None-clause-behind c = sym (behind_alone _ c.in-None.ensures.none)
