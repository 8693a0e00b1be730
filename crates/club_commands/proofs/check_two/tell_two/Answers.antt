use Rattle.std.proofs.Common.{inr}
use Rattle.club_commands.proofs.check_two.tell_two.Goals as goal

pub returns : goal.returns
returns g c =
    inr (c.judge-judged.result, (c.judge-judged.ensures.judged, c.judge-judged.ensures.fault), rw c.in-Ok.ensures at c.tell_judged.ensures)
