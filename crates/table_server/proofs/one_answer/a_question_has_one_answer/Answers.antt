use Rattle.table_server.proofs.OneAnswer.{one_answer}
use Rattle.table_server.proofs.one_answer.a_question_has_one_answer.Goals as goal

pub returns : goal.returns
returns c = one_answer
