use Rattle.line_text.proofs.Ascii.{ascii_is_text, numeral_is_ascii}
use Rattle.line_text.proofs.Values.{parsed_value}
use Rattle.line_text.proofs.numeral.value_of.Goals as goal

pub unwrap-text-requires : goal.unwrap-text-requires
unwrap-text-requires c =
    ascii_is_text c.args.word.now c.from_utf8.result _ _ c.from_utf8.ensures.cases (numeral_is_ascii c.args.word.now c.requires)

pub returns : goal.returns
returns c =
    let read = rw c.unwrap-text.ensures at c.from_utf8.ensures.cases in
    parsed_value c.args.word.now c.unwrap-text.result.now c.parse.result c.ok.result read.0 c.requires c.parse.ensures.value.0 c.ok.ensures.value
