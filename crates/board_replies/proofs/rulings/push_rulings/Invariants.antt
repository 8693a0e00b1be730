use Rattle.std.proofs.Common.{◌≡◌, ◌++◌, take}
use Rattle.std.specs.Prelude.{flat_map}
use Rattle.line_text.specs.Lines.{lines_text}
use Rattle.board_replies.specs.Rulings.{ruled_in}
use Rattle.board_replies.proofs.rulings.push_rulings.Given as goal

abbrev pub invariant-loop-row : goal.invariant-loop-row
invariant-loop-row l = l.text.items ≡ l.fn.text.items ++ lines_text (flat_map (ruled_in l.session) (take l.row-index l.rows))
