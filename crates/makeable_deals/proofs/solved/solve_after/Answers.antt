use Rattle.std.specs.Cmp.Lexicographic.{same_text}
use Rattle.makeable_deals.proofs.solved.solve_after.Goals as goal

pub returns-in-Some : goal.returns-in-Some
returns-in-Some c = same_text _ _ c.if-eq.ensures
