use Rattle.session_analysis.proofs.event_boards.makeable_on.Goals as goal

pub returns : goal.returns
returns c = rw c.first_deal.ensures at c.makeable_of.ensures
