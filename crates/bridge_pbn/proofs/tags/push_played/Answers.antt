use Rattle.std.proofs.Common.{[], ◌∷◌, ◌++◌}
use Rattle.std.specs.Prelude.{codes}
use Rattle.std.specs.Fmt.{decimal}
use Rattle.bridge_cards.specs.Seat.{seat_letter}
use Rattle.bridge_auction.specs.Spelling.{bid_text, doubling_text}
use Rattle.bridge_pbn.specs.Tags.{tag}
use Rattle.bridge_pbn.proofs.Pushed.{line_then, line_last}
use Rattle.bridge_pbn.proofs.tags.push_played.Goals as goal

pub returns-clause-lines : goal.returns-clause-lines
returns-clause-lines c =
    let first = tag (codes "Declarer") (seat_letter c.args.contract.now.declarer ∷ []) in
    let second = tag (codes "Contract") (bid_text c.args.contract.now.bid ++ doubling_text c.args.contract.now.doubling) in
    let last = tag (codes "Result") (decimal c.args.tricks) in
    line_then _ _ _ first (second ∷ last ∷ []) (rw c.seat_text.ensures.text at c.push_tag.ensures.line)
    (line_then _ _ _ second (last ∷ []) (rw (c.as_str.ensures.value, c.contract_text-made.ensures) at c.push_tag-2.ensures.line)
    (line_last _ _ last c.push_number.ensures.line))
