use Rattle.bridge_config.proofs.FiveWords.{each_numeral}
use Rattle.line_text.specs.WordViews.{view_of_five}
use Rattle.bridge_config.proofs.line.Line.shape_of.Goals as goal

pub within_byte-requires-3 : goal.within_byte-requires-3
within_byte-requires-3 c = (each_numeral (view_of_five c.args.words.now) c.requires).third

pub within_byte-requires-4 : goal.within_byte-requires-4
within_byte-requires-4 c = (each_numeral (view_of_five c.args.words.now) c.requires).fourth

pub within_byte-requires-5 : goal.within_byte-requires-5
within_byte-requires-5 c = (each_numeral (view_of_five c.args.words.now) c.requires).fifth
