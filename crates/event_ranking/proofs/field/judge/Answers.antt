use Rattle.std.proofs.Common.{refl, arith}
use Rattle.std.proofs.lemmas.List.Elements.{pair_read}
use Rattle.session_rules.specs.State.{SessionValue}
use Rattle.event_ranking.specs.OneField.{IsFirstDifference}
use Rattle.event_ranking.proofs.Alike.{with_more}
use Rattle.event_ranking.proofs.field.judge.Goals as goal

pub returns-in-Some-clause-refused : goal.returns-in-Some-clause-refused
returns-in-Some-clause-refused c = record {
  of = refl;
  earlier = c.loop-earlier-test.true;
  first = c.loop-earlier.invariant;
  differs = pair_read c.args.sections.now (λ (s t : SessionValue). IsFirstDifference s t c.in-Some.difference) c.loop-earlier.earlier c.args.index
      c.index-sections-earlier.result c.index-sections-index.result (omega arith) c.requires c.index-sections-earlier.is c.index-sections-index.is c.in-Some.ensures;
}

pub loop-earlier-preserved : goal.loop-earlier-preserved
loop-earlier-preserved c =
    with_more c.args.sections.now c.args.index c.loop-earlier.earlier c.index-sections-earlier.result c.index-sections-index.result (omega arith) c.requires
    c.index-sections-earlier.is c.index-sections-index.is c.in_default.ensures c.loop-earlier.invariant
