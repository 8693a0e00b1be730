use Rattle.std.proofs.Common.{◌≡◌, ◌+◌, ◌*◌, ◌≤◌, ◌++◌, length, map, take}
use Rattle.bridge_cards.specs.Card.{card_text}
use Rattle.line_replies.specs.ReplyTexts.{each_spaced}
use Rattle.line_replies.proofs.view_reply.push_cards.Given as goal

abbrev pub invariant-loop-card : goal.invariant-loop-card
invariant-loop-card l = record {
  text : l.text.bytes ≡ l.fn.text.bytes ++ each_spaced (map card_text (take l.card-index l.cards));
  room : length l.text.bytes ≤ length l.fn.text.bytes + 3 * l.card-index;
}
