use Rattle.std.proofs.Common.{◌∙◌}
use Rattle.results_object.proofs.boards.traveller_value.Goals as goal

pub returns : goal.returns
returns c = rw (c.available.ensures, c.as_slice.ensures.value ∙ c.traveller-lines.ensures.lines, c.requires) at c.plays_value.ensures
