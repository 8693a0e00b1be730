use Rattle.table_server.proofs.OneAnswer.{one_text}
use Rattle.table_server.proofs.one_answer.lines_have_one_text_of_replies.Goals as goal

pub returns : goal.returns
returns c = one_text
