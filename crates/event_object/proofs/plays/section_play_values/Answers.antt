use Rattle.event_object.specs.SectionPlays.{section_play_data}
use Rattle.results_object.proofs.Lists.{one_more}
use Rattle.event_object.proofs.plays.section_play_values.Goals as goal

pub loop-play-preserved : goal.loop-play-preserved
loop-play-preserved c =
    one_more (section_play_data c.args.scoring c.args.available) c.args.plays.now c.loop-play.play-index c.play-item.result c.loop-play.list.items c.push.new.list.items c.in_ok-value.value
    c.loop-play-test.true c.play-item.is c.loop-play.invariant c.in_ok-value.ensures c.in_ok-push.ensures.ok
