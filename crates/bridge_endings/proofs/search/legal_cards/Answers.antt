use Rattle.std.proofs.Common.{◌≡◌, ℕ, Bool, length, sym, ◌∙◌}
use Rattle.bridge_cards.specs.CardSet.{has_card}
use Rattle.bridge_cards.specs.Seat.{clockwise_from}
use Rattle.bridge_endings.specs.Left.{left_to}
use Rattle.bridge_endings.proofs.LegalCards.{legal_void, legal_suited}
use Rattle.bridge_endings.proofs.search.legal_cards.Goals as goal

pub returns-then-is_empty-clause-legal : goal.returns-then-is_empty-clause-legal
returns-then-is_empty-clause-legal c =
    let hand : ℕ → Bool = left_to c.args.hands.now c.args.left (clockwise_from c.args.trick.now.leader (length c.args.trick.now.cards)) in
    let holds : (card : ℕ) → has_card c.held-held.result card ≡ hand card = λ card. rw (← c.turn.ensures) (c.held-held.ensures card) in
    legal_void hand c.args.trick.now.cards c.in-Some.led c.held-held.result c.of_suit-suited.result (sym c.led.ensures ∙ c.in-Some.is) c.suit_of.ensures.known holds
    (λ card. rw (← c.suit_of.ensures.suit) (c.of_suit-suited.ensures card)) c.if-is_empty.ensures.cards

pub returns-else-is_empty-clause-legal : goal.returns-else-is_empty-clause-legal
returns-else-is_empty-clause-legal c =
    let hand : ℕ → Bool = left_to c.args.hands.now c.args.left (clockwise_from c.args.trick.now.leader (length c.args.trick.now.cards)) in
    let holds : (card : ℕ) → has_card c.held-held.result card ≡ hand card = λ card. rw (← c.turn.ensures) (c.held-held.ensures card) in
    legal_suited hand c.args.trick.now.cards c.in-Some.led c.held-held.result c.of_suit-suited.result (sym c.led.ensures ∙ c.in-Some.is) c.suit_of.ensures.known holds
    (λ card. rw (← c.suit_of.ensures.suit) (c.of_suit-suited.ensures card)) c.if-is_empty.ensures.cards
