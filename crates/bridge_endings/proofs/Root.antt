-- The worth of the ending that is solved, and what a search's answers tell of it.
use Rattle.std.proofs.Common.{◌≡◌, ℕ, ◌*◌, ◌≤◌, Bool, List, [], Option, ap, ◌∙◌, arith}
use Rattle.bridge_cards.specs.declared.suit.Suit.{Suit}
use Rattle.bridge_cards.specs.declared.seat.Seat.{Seat}
use Rattle.bridge_endings.specs.EndingValue.{EndingValue}
use Rattle.bridge_endings.specs.Ending.{tricks_in}
use Rattle.bridge_endings.specs.Worth.{dealt, worth_with, worth_of}
use Rattle.bridge_endings.proofs.WorthSteps.{worth_with_le}

-- no more tricks are won than are left
pub worth_of_le : (ending : EndingValue) → worth_of ending ≤ tricks_in ending.hands
worth_of_le ending =
    omega (arith, worth_with_le ending.trump (4 * tricks_in ending.hands) (dealt ending.hands) ending.leader [] (omega arith))

pub worth_le : (trump : Option Suit) (tricks : ℕ) (held : Seat → ℕ → Bool) (leader : Seat) → worth_with trump (4 * tricks) held leader [] ≤ tricks
worth_le trump tricks held leader = omega (arith, worth_with_le trump (4 * tricks) held leader [] (omega arith))

-- what is found by the ending's parts is its worth
pub asked : (ending : EndingValue) (hands : List ℕ) (trump : Option Suit) (leader : Seat) (tricks : ℕ) → hands ≡ ending.hands → trump ≡ ending.trump → leader ≡ ending.leader → tricks ≡ tricks_in ending.hands
    → worth_with trump (4 * tricks) (dealt hands) leader [] ≡ worth_of ending
asked ending hands trump leader tricks hands_is trump_is leader_is tricks_is =
    ap (λ t. worth_with t (4 * tricks) (dealt hands) leader []) trump_is
    ∙ ap (λ n. worth_with ending.trump (4 * n) (dealt hands) leader []) tricks_is
    ∙ ap (λ h. worth_with ending.trump (4 * tricks_in ending.hands) (dealt h) leader []) hands_is
    ∙ ap (λ seat. worth_with ending.trump (4 * tricks_in ending.hands) (dealt ending.hands) seat []) leader_is
