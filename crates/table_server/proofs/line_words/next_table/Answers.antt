use Rattle.table_server.specs.LineWords.{table_of_word}
use Rattle.table_server.proofs.FirstWords.{first_read}
use Rattle.table_server.proofs.line_words.next_table.Goals as goal

pub returns : goal.returns
returns c = first_read table_of_word c.args.text.now.now c.in_ok-word.word.now c.in_ok-word.rest.now c.in_ok-table.table c.in_ok-word.ensures c.in_ok-table.ensures
