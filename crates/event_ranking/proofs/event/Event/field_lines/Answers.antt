use Rattle.std.proofs.Common.{◌<◌, length, map, ap, ◌∙◌, arith, length-append}
use Rattle.std.specs.Prelude.{flat_map}
use Rattle.std.specs.List.{enumerate_from}
use Rattle.std.proofs.lemmas.List.{take_all}
use Rattle.std.proofs.lemmas.List.FromFn.{length-enumerate_from}
use Rattle.bridge_ranking.specs.Ranking.{games_of}
use Rattle.event_ranking.specs.Joint.{joint}
use Rattle.event_ranking.specs.EventRanking.{scoring_of, section_lines, lines_at}
use Rattle.event_ranking.proofs.Lines.{fields_more}
use Rattle.event_ranking.proofs.event.Event.field_lines.Goals as goal

pub loop-index-preserved : goal.loop-index-preserved
loop-index-preserved c =
    let sections = c.args.self.now in
    let index = c.loop-index.index in
    let before = c.loop-index.lines.items in
    let grown = c.in_ok-push_section_lines.ensures.lines in
    let within : index < length sections = omega (arith, ap length c.self.view_is, c.loop-index-test.true) in
    record {
      lines = fields_more sections c.args.field index before c.push_section_lines.new.lines.items within c.loop-index.invariant.lines grown;
      few = omega (arith, ap length grown, length-append before (lines_at sections index c.args.field), c.loop-index.invariant.few, c.in_ok-push_section_lines.ensures.few);
    }

pub returns-clause-lines : goal.returns-clause-lines
returns-clause-lines c =
    let sections = c.args.self.now in
    let index = c.loop-index.index in
    c.loop-index.invariant.lines
    ∙ ap (flat_map (section_lines (scoring_of sections) (joint (map games_of sections)) c.args.field))
    (take_all index (enumerate_from 1 sections) (omega (arith, ap length c.self.view_is, c.loop-index-test.false, length-enumerate_from 1 sections)))

pub returns-clause-most : goal.returns-clause-most
returns-clause-most c = omega (arith, c.loop-index.invariant.few, c.loop-index.auto.index-end, c.self.invariant.few)
