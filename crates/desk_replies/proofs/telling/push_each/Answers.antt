use Rattle.std.proofs.Common.{◌++◌, List, Option, ap, arith, ◌∙◌, map}
use Rattle.std.specs.Prelude.{flat_map}
use Rattle.std.proofs.lemmas.List.{take_all}
use Rattle.bridge_config.specs.ConfigValue.{pair_of}
use Rattle.line_text.specs.Lines.{lines_text}
use Rattle.desk_replies.specs.declared.desk.TableCall.{TableCall}
use Rattle.desk_replies.specs.Told.{call_lines}
use Rattle.desk_replies.proofs.Lines.{one_more}
use Rattle.desk_replies.proofs.telling.push_each.Goals as goal

pub loop-call-preserved : goal.loop-call-preserved
loop-call-preserved c = record {
  text = one_more (call_lines (map pair_of c.args.pairs.now)) c.args.calls.now c.loop-call.call-index c.call-item.result _ _ _ c.loop-call-test.true
      c.loop-call.invariant.text
      (c.push_of_table.ensures.line
      ∙ ap (λ (call : Option TableCall). c.loop-call.text.bytes ++ lines_text (call_lines (map pair_of c.args.pairs.now) call)) c.call-item.is);
  room = omega (arith, c.loop-call.invariant.room, c.push_of_table.ensures.room);
}

pub returns-clause-lines : goal.returns-clause-lines
returns-clause-lines c =
    let all = c.args.calls.now in
    c.loop-call.invariant.text
    ∙ ap (λ (some : List (Option TableCall)). c.args.text.now.bytes ++ lines_text (flat_map (call_lines (map pair_of c.args.pairs.now)) some)) (take_all c.loop-call.call-index all c.loop-call-test.false)
