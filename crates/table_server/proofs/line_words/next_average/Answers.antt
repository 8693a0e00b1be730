use Rattle.table_server.specs.LineWords.{average_of_word}
use Rattle.table_server.proofs.FirstWords.{first_read}
use Rattle.table_server.proofs.line_words.next_average.Goals as goal

pub returns : goal.returns
returns c = first_read average_of_word c.args.text.now.now c.in_ok-word.word.now c.in_ok-word.rest.now c.in_ok-average.average c.in_ok-word.ensures c.in_ok-average.ensures
