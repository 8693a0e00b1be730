use Rattle.std.proofs.Common.{◌∙◌, arith}
use Rattle.std.proofs.lemmas.Bool.Decides.{nat_tests}
use Rattle.web_loop.proofs.clients.room.is_before.Goals as goal

pub returns-in-Some : goal.returns-in-Some
returns-in-Some c = rw (c.in-Some.is) (c.gt.ensures ∙ grind (arith, nat_tests, c.duration_since.ensures))
