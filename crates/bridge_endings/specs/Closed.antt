-- Hands closed up: the cards of a suit below a gap moved up by one. Only the order of cards matters to the worth.
use Rattle.std.specs.Prelude.{ℕ, zero, suc, Bool, false, not, ◌&&◌, ◌||◌, nat_lt}
use Rattle.bridge_cards.specs.declared.seat.Seat.{Seat}
use Rattle.bridge_cards.specs.declared.seat.Seat.TheVariants.{North, East, South, West}
use Rattle.bridge_cards.specs.Card.{same_suit}

-- whether some seat holds the card
abbrev pub is_held : (Seat → ℕ → Bool) → ℕ → Bool
is_held held card = held North card || (held East card || (held South card || held West card))

-- whether the card is of the gap's suit and below it
abbrev pub is_below : ℕ → ℕ → Bool
is_below gap card = same_suit gap card && nat_lt card gap

-- cards moved up by one
abbrev pub moved_up : (ℕ → Bool) → ℕ → Bool
moved_up cards zero = false
moved_up cards (suc card) = cards card

-- a hand, with its cards below the gap moved up by one
abbrev pub closed : ℕ → (ℕ → Bool) → ℕ → Bool
closed gap hand card = (hand card && not (is_below gap card)) || moved_up (λ other. hand other && is_below gap other) card

-- what counts where the gap is open, if that counts once it is closed
abbrev pub opened : ℕ → (ℕ → Bool) → ℕ → Bool
opened gap counts card = counts card || (counts (suc card) && is_below gap card)
