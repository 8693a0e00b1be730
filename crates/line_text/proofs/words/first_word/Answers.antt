use Rattle.line_text.proofs.WordReading.{first_word_of}
use Rattle.line_text.proofs.words.first_word.Goals as goal

pub returns : goal.returns
returns c = first_word_of c.args.text.now c.split_once.result c.split_once.ensures.parts c.split_once.ensures.first c.split_once.ensures.none
