use Rattle.session_analysis.proofs.boards.makeable_on.Goals as goal

pub returns : goal.returns
returns c = rw c.deal.ensures at c.makeable_of.ensures
