use Rattle.event_ranking.specs.OneField.{CanCompare}
use Rattle.event_ranking.proofs.Alike.{first_refusal}
use Rattle.event_ranking.proofs.Pairs.{AllPairs-more, AllPairs-whole}
use Rattle.event_ranking.proofs.field.field_of.Goals as goal

pub returns-in-Err-clause-refused : goal.returns-in-Err-clause-refused
returns-in-Err-clause-refused c =
    first_refusal c.args.sections.now c.loop-index.index c.in-Err.refused c.loop-index-test.true c.loop-index.invariant c.in-Err.ensures.refused

pub loop-index-preserved : goal.loop-index-preserved
loop-index-preserved c =
    AllPairs-more CanCompare c.args.sections.now c.loop-index.index c.loop-index-test.true c.loop-index.invariant c.in_default.ensures.fits

pub returns-clause-field : goal.returns-clause-field
returns-clause-field c = AllPairs-whole CanCompare c.args.sections.now c.loop-index.index c.loop-index-test.false c.loop-index.invariant
