use Rattle.std.proofs.Common.{inr}
use Rattle.session_pair.proofs.joining.judge.Goals as goal

pub returns-then-may_follow-clause-judged : goal.returns-then-may_follow-clause-judged
returns-then-may_follow-clause-judged c = record {
  may = inr (c.in-Ok.ensures.0 c.if-not-is_one.false, c.may_follow-may_follow.ensures.0 c.if-may_follow.true);
  first = c.stand_so-judged.ensures.first;
  level = c.stand_so-judged.ensures.level;
}
