use Rattle.bridge_pbn.proofs.tags.push_outcome_tags.Goals as goal

pub returns-in-Played-clause-lines : goal.returns-in-Played-clause-lines
returns-in-Played-clause-lines c = rw c.in-Played.is c.push_played.ensures.lines

pub returns-in-PassedOut-clause-lines : goal.returns-in-PassedOut-clause-lines
returns-in-PassedOut-clause-lines c = rw c.in-PassedOut.is c.push_unplayed.ensures.lines

pub returns-in-Unfinished-clause-lines : goal.returns-in-Unfinished-clause-lines
returns-in-Unfinished-clause-lines c = rw c.in-Unfinished.is c.push_unplayed-in-Unfinished.ensures.lines

pub returns-in-Voided-clause-lines : goal.returns-in-Voided-clause-lines
returns-in-Voided-clause-lines c = rw c.in-Voided.is c.push_unplayed-in-Voided.ensures.lines

pub returns-in-Adjusted-clause-lines : goal.returns-in-Adjusted-clause-lines
returns-in-Adjusted-clause-lines c = rw c.in-Adjusted.is c.push_unplayed-in-Adjusted.ensures.lines

pub returns-in-Assigned-clause-lines : goal.returns-in-Assigned-clause-lines
returns-in-Assigned-clause-lines c = rw c.in-Assigned.is c.push_unplayed-in-Assigned.ensures.lines
