use Rattle.std.proofs.Common.{[], ◌∷◌}
use Rattle.std.specs.Prelude.{codes}
use Rattle.bridge_cards.specs.Seat.{seat_letter}
use Rattle.bridge_cards.specs.Board.{dealer_of, vulnerability_on}
use Rattle.bridge_cards.specs.DealText.{deal_text}
use Rattle.bridge_cards.specs.Vulnerability.{vulnerability_text}
use Rattle.bridge_pbn.specs.Tags.{tag, scoring_text}
use Rattle.bridge_pbn.proofs.Pushed.{line_then, line_last}
use Rattle.bridge_pbn.proofs.tags.push_board_tags.Goals as goal

pub returns-clause-lines : goal.returns-clause-lines
returns-clause-lines c =
    let first = tag (codes "Dealer") (seat_letter (dealer_of c.args.board) ∷ []) in
    let second = tag (codes "Vulnerable") (vulnerability_text (vulnerability_on c.args.board)) in
    let third = tag (codes "Deal") (deal_text c.args.deal.now (dealer_of c.args.board)) in
    let last = tag (codes "Scoring") (scoring_text c.args.scoring) in
    line_then _ _ _ first (second ∷ third ∷ last ∷ []) (rw (c.seat_text.ensures.text, c.dealer-first.ensures) at c.push_tag.ensures.line)
    (line_then _ _ _ second (third ∷ last ∷ []) (rw (c.vulnerability_text.ensures.text, c.vulnerability_of.ensures) at c.push_tag-2.ensures.line)
    (line_then _ _ _ third (last ∷ []) (rw (c.as_str.ensures.value, c.print_deal.ensures.text, c.dealer-first.ensures) at c.push_tag-3.ensures.line)
    (line_last _ _ last (rw c.scoring_text.ensures.text at c.push_tag-4.ensures.line))))
