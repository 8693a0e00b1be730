use Rattle.std.proofs.Common.{arith}
use Rattle.line_text.specs.WordViews.{view_of_five}
use Rattle.bridge_config.proofs.Bytes.{name_is_ascii, name_length}
use Rattle.bridge_config.proofs.FiveWords.{pair_form}
use Rattle.bridge_config.proofs.line.Line.pair_of.Goals as goal

pub within-requires-2 : goal.within-requires-2
within-requires-2 c = (pair_form (view_of_five c.args.words.now) c.requires).third

pub within-requires-3 : goal.within-requires-3
within-requires-3 c = (pair_form (view_of_five c.args.words.now) c.requires).fifth

pub inline-requires : goal.inline-requires
inline-requires c =
    let named = (pair_form (view_of_five c.args.words.now) c.requires).second in
    (omega arith, (name_is_ascii c.args.words.now.second.now named, name_length c.args.words.now.second.now named))

pub inline-requires-2 : goal.inline-requires-2
inline-requires-2 c =
    let named = (pair_form (view_of_five c.args.words.now) c.requires).fourth in
    (omega arith, (name_is_ascii c.args.words.now.fourth.now named, name_length c.args.words.now.fourth.now named))
