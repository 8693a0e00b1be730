use Rattle.table_server.proofs.CardWords.{card_read}
use Rattle.table_server.proofs.line_words.read_card_word.Goals as goal

pub returns : goal.returns
returns c = card_read c.args.word.now c.read_card.result c.read_card.ensures.card c.read_card.ensures.none
