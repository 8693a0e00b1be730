use Rattle.table_server.specs.CorrectionLine.{doubled_bid_of}
use Rattle.table_server.proofs.FirstWords.{first_read}
use Rattle.table_server.proofs.correction_lines.next_doubled_bid.Goals as goal

pub returns : goal.returns
returns c = first_read doubled_bid_of c.args.text.now.now c.in_ok-word.word.now c.in_ok-word.rest.now c.in_ok-bid.bid c.in_ok-word.ensures c.in_ok-bid.ensures
