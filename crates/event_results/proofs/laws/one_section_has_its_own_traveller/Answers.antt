use Rattle.event_results.proofs.OneSection.{one_section}
use Rattle.event_results.proofs.laws.one_section_has_its_own_traveller.Goals as goal

pub returns : goal.returns
returns c = one_section
