use Rattle.std.proofs.Common.{inl, inr}
use Rattle.session_analysis.specs.Analysed.{seen_found}
use Rattle.club_commands.proofs.results.write_analysed.Goals as goal

pub returns-in-Ok : goal.returns-in-Ok
returns-in-Ok g c =
    inl (seen_found c.in-Ok.found, rw c.plays_in.ensures at c.in-Ok.ensures, rw c.analysis.ensures at c.write_named.ensures)

pub returns-in-Err : goal.returns-in-Err
returns-in-Err g c = inr c.write_without.ensures
