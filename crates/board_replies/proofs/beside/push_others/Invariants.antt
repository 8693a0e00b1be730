use Rattle.std.proofs.Common.{◌≡◌, ◌++◌, take}
use Rattle.std.specs.List.{filter_map}
use Rattle.line_text.specs.Lines.{lines_text}
use Rattle.board_replies.specs.Beside.{other_in}
use Rattle.board_replies.proofs.beside.push_others.Given as goal

abbrev pub invariant-loop-line : goal.invariant-loop-line
invariant-loop-line l = l.text.items ≡ l.fn.text.items ++ lines_text (filter_map (other_in l.row) (take l.line-index l.lines))
