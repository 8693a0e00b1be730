use Rattle.std.proofs.Common.{◌≡◌, take, map}
use Rattle.serde_json.specs.View.{view}
use Rattle.event_object.specs.SectionRankings.{section_ranked_data}
use Rattle.event_object.proofs.rankings.section_ranked_values.Given as goal

abbrev pub invariant-loop-ranked : goal.invariant-loop-ranked
invariant-loop-ranked l = map view l.list.items ≡ map (section_ranked_data l.scoring l.sections) (take l.ranked-index l.ranking)
