use Rattle.std.proofs.Common.{◌≡◌, ℕ, ◌-◌, ◌*◌, Bool, List, [], ◌∷◌, length, Option, ◌∙◌, subst, arith}
use Rattle.bridge_cards.specs.declared.suit.Suit.{Suit}
use Rattle.bridge_cards.specs.declared.seat.Seat.{Seat}
use Rattle.bridge_cards.specs.Seat.{clockwise_from}
use Rattle.bridge_endings.specs.declared.answer.Answer.{Answer}
use Rattle.bridge_endings.specs.SearchValue.{IsAnswer}
use Rattle.bridge_endings.specs.Left.{left_to}
use Rattle.bridge_endings.proofs.Seats.{first_place}
use Rattle.bridge_endings.proofs.GoingOn.{if_told}
use Rattle.bridge_endings.proofs.search.Search.reaches_at.Goals as goal

-- nobody has played to the trick
at_first : (trump : Option Suit) (tricks need : ℕ) (answer : Answer) (held : Seat → ℕ → Bool) (leader turn : Seat) (trick : List ℕ) → length trick ≡ 0 → turn ≡ clockwise_from leader (length trick) → IsAnswer trump (4 * tricks) need answer held turn [] → IsAnswer trump (4 * tricks - length trick) need answer held leader trick
at_first trump tricks need answer held leader turn [] none is told =
    let whole : 4 * tricks ≡ 4 * tricks - length {A = ℕ} [] = omega arith in
    subst (λ n. IsAnswer trump n need answer held leader []) whole
    (subst (λ seat. IsAnswer trump (4 * tricks) need answer held seat []) (is ∙ first_place leader) told)
at_first trump tricks need answer held leader turn (card ∷ trick) none is told = absurd (omega (arith, none))

pub returns-then-len-eq0-clause-answer : goal.returns-then-len-eq0-clause-answer
returns-then-len-eq0-clause-answer c =
    let held = left_to c.args.hands.now c.args.left in
    if_told
    (λ answer. IsAnswer c.args.self.now.trump (4 * c.args.tricks) c.args.need answer held c.turn.result [])
    (λ answer. IsAnswer c.args.self.now.trump (4 * c.args.tricks - length c.args.trick.now.cards) c.args.need answer held c.args.trick.now.leader c.args.trick.now.cards)
    (λ answer. at_first c.args.self.now.trump c.args.tricks c.args.need answer held c.args.trick.now.leader c.turn.result c.args.trick.now.cards (omega arith) c.turn.ensures)
    c.reaches_from.result c.reaches_from.ensures.answer
