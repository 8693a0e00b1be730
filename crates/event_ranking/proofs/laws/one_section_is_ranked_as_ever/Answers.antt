use Rattle.std.proofs.Common.{refl}
use Rattle.event_ranking.proofs.OneSection.{one_section}
use Rattle.event_ranking.proofs.laws.one_section_is_ranked_as_ever.Goals as goal

pub returns : goal.returns
returns c = record { line = λ scoring games pair. refl; ranking = one_section }
