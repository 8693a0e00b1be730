use Rattle.std.proofs.Common.{arith}
use Rattle.line_replies.specs.ReplyTexts.{ranked_line}
use Rattle.line_replies.proofs.Pairs.{one_more}
use Rattle.line_replies.proofs.ranking_reply.push_pairs.Goals as goal

pub loop-ranked-preserved : goal.loop-ranked-preserved
loop-ranked-preserved c = record {
  text = one_more (ranked_line c.args.scoring) c.args.ranking.now c.loop-ranked.ranked-index _ _ _ _ (omega arith) c.loop-ranked.invariant.text c.push_ranked.ensures.line;
  room = omega arith;
}
