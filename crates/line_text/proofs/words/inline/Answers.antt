use Rattle.line_text.proofs.Ascii.{ascii_is_text}
use Rattle.line_text.proofs.words.inline.Goals as goal

pub unwrap-requires : goal.unwrap-requires
unwrap-requires g c = ascii_is_text c.args.word.now c.from_utf8.result _ _ c.from_utf8.ensures.cases c.requires.ascii
