-- Dummy, and who plays its cards (Law 45).
use Rattle.std.specs.Prelude.{if◌then◌else◌}
use Rattle.bridge_cards.specs.declared.seat.Seat.{Seat}
use Rattle.bridge_cards.specs.Seat.{clockwise_from, same_seat}
use Rattle.bridge_auction.specs.declared.contract.Contract.{Contract}

-- declarer's partner
abbrev pub dummy_of : Contract → Seat
dummy_of contract = clockwise_from contract.declarer 2

-- who plays the cards of a hand: declarer plays dummy's
abbrev pub actor_of : Contract → Seat → Seat
actor_of contract hand = if same_seat hand (dummy_of contract) then contract.declarer else hand
