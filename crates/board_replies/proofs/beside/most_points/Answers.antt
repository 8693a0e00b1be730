use Rattle.std.proofs.Common.{arith}
use Rattle.board_replies.proofs.OwnTexts.{scores_few}
use Rattle.board_replies.proofs.beside.most_points.Goals as goal

pub overflow_mul-result : goal.overflow_mul-result
overflow_mul-result c = omega (arith, c.requires, c.count_scores.ensures, c.saturating_sub.ensures, scores_few c.args.lines.now)
