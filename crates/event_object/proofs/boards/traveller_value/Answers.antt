use Rattle.event_object.proofs.boards.traveller_value.Goals as goal

pub returns : goal.returns
returns c =
    rw (c.scoring_of-scoring.ensures, c.sections.ensures.sections, c.available_on-available.ensures, c.traveller.ensures, c.requires) at c.section_plays_value.ensures
