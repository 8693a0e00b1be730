use Rattle.std.proofs.Common.{ap, length, arith}
use Rattle.desk_replies.proofs.PlainTexts.{bytes_of_characters}
use Rattle.desk_replies.proofs.plain_text.PlainText.keep.Goals as goal

pub push_str-requires : goal.push_str-requires
push_str-requires c =
    let room = bytes_of_characters c.args.text.now c.utf8.text in
    let none = ap length c.new-kept.ensures in
    let few = c.requires in
    (omega arith, omega (arith, room, none, few))
