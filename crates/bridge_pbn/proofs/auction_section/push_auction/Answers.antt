use Rattle.std.proofs.Common.{◌+◌, ◌/◌, [], ◌∷◌, length, map}
use Rattle.std.specs.Prelude.{codes}
use Rattle.std.specs.List.{range_with_len}
use Rattle.bridge_cards.specs.Seat.{seat_letter}
use Rattle.bridge_pbn.specs.Tags.{tag}
use Rattle.bridge_pbn.specs.Sections.{calls_line}
use Rattle.bridge_pbn.proofs.Pushed.{line_then}
use Rattle.bridge_pbn.proofs.auction_section.push_auction.Goals as goal

pub returns-clause-lines : goal.returns-clause-lines
returns-clause-lines c =
    line_then _ _ _ (tag (codes "Auction") (seat_letter c.args.dealer ∷ []))
    (map (calls_line c.args.calls.now) (range_with_len 0 ((length c.args.calls.now + 3) / 4)))
    (rw c.seat_text.ensures.text at c.push_tag.ensures.line) c.push_lines.ensures.lines
