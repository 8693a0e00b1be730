use Rattle.std.proofs.Common.{◌≡◌, ◌++◌, map, take}
use Rattle.bridge_cards.specs.Card.{card_text}
use Rattle.line_replies.specs.ReplyTexts.{each_spaced}
use Rattle.board_replies.proofs.play_lines.push_cards.Given as goal

abbrev pub invariant-loop-card : goal.invariant-loop-card
invariant-loop-card l = l.text.items ≡ l.fn.text.items ++ each_spaced (map card_text (take l.card-index l.cards))
