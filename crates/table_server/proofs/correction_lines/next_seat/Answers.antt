use Rattle.table_server.specs.CorrectionLine.{seat_of_word}
use Rattle.table_server.proofs.FirstWords.{first_read}
use Rattle.table_server.proofs.correction_lines.next_seat.Goals as goal

pub returns : goal.returns
returns c = first_read seat_of_word c.args.text.now.now c.in_ok-word.word.now c.in_ok-word.rest.now c.in_ok-seat.seat c.in_ok-word.ensures c.in_ok-seat.ensures
