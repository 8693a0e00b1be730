use Rattle.std.proofs.Common.{map}
use Rattle.line_replies.specs.ReplyTexts.{ranked_line}
use Rattle.line_replies.proofs.Pairs.{listed_is}
use Rattle.line_replies.proofs.ranking_reply.push_ranking.Goals as goal

pub returns : goal.returns
returns c = listed_is (map (ranked_line c.args.scoring) c.args.ranking.now) _ _ _ _ c.requires.empty c.push_str.ensures.bytes c.push_pairs.ensures.lines c.push_str-2.ensures.bytes
