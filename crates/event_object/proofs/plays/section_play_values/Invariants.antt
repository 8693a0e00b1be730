use Rattle.std.proofs.Common.{◌≡◌, take, map}
use Rattle.serde_json.specs.View.{view}
use Rattle.event_object.specs.SectionPlays.{section_play_data}
use Rattle.event_object.proofs.plays.section_play_values.Given as goal

abbrev pub invariant-loop-play : goal.invariant-loop-play
invariant-loop-play l = map view l.list.items ≡ map (section_play_data l.scoring l.available) (take l.play-index l.plays)
