use Rattle.std.proofs.Common.{◌≡◌, length, All}
use Rattle.club_commands.specs.Works.{IsRead}
use Rattle.club_commands.proofs.events.sections_in.Given as goal

abbrev pub invariant-loop-index : goal.invariant-loop-index
invariant-loop-index g l = (length l.sections.items ≡ l.index) × All IsRead l.sections.items
