use Rattle.std.proofs.Common.{arith}
use Rattle.event_object.specs.Sections.{section_data}
use Rattle.event_object.proofs.Numbered.{section_more, all_sections}
use Rattle.event_object.proofs.sections.section_values.Goals as goal

pub loop-index-preserved : goal.loop-index-preserved
loop-index-preserved c =
    section_more section_data c.args.sections.now c.loop-index.index c.index-sections-index.result c.loop-index.list.items c.push.new.list.items c.in_ok-value.value
    c.loop-index-test.true c.index-sections-index.is c.loop-index.invariant c.in_ok-value.ensures c.in_ok-push.ensures.ok

pub returns : goal.returns
returns c = all_sections section_data c.args.sections.now c.loop-index.index c.loop-index.list.items (omega arith) c.loop-index.invariant
