use Rattle.bridge_results.proofs.pages.makeable.write_known.Goals as goal

pub returns-in-Some : goal.returns-in-Some
returns-in-Some g c = rw c.in-Some.is c.write_makeable.ensures
