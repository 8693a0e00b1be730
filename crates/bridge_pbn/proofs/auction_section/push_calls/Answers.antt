use Rattle.std.proofs.Common.{arith}
use Rattle.bridge_pbn.specs.Sections.{call_word}
use Rattle.bridge_pbn.proofs.Pushed.{word_more}
use Rattle.bridge_pbn.proofs.auction_section.push_calls.Goals as goal

pub loop-index-preserved : goal.loop-index-preserved
loop-index-preserved c = record {
  text = word_more call_word c.args.text.now.bytes c.loop-index.text.bytes c.push_next_call.new.text.bytes c.args.calls.now c.loop-index.index
      c.index-calls-index.result (omega arith) c.index-calls-index.is c.loop-index.invariant.text c.push_next_call.ensures.text;
  room = omega arith;
}
