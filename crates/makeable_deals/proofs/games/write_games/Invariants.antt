use Rattle.std.specs.Prelude.{length}
use Rattle.std.specs.Str.Lines.{lines}
use Rattle.makeable_deals.proofs.GamesWritten.{LeadsOn}
use Rattle.makeable_deals.proofs.games.write_games.Given as goal

abbrev pub invariant-loop-line : goal.invariant-loop-line
invariant-loop-line g l =
    LeadsOn (g.W.Write.contents l.fn.writer) (g.W.Write.contents l.writer) (lines l.rest) l.left (lines l.fn.text) l.fn.deals

abbrev pub decreases-loop-line : goal.decreases-loop-line
decreases-loop-line g l = length (lines l.rest)
