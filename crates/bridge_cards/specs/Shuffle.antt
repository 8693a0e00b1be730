-- The deal of a board by a shuffle of the deck.
use Rattle.std.specs.Prelude.{ℕ, ◌*◌, ◌↔◌, List, take, drop, IsTrue, Contains}
use Rattle.rand_core.specs.Steps.{stream_of, steps_u32}
use Rattle.rand_chacha.specs.ChaCha.{ChaCha, of_seed, next_word}
use Rattle.rand.specs.Shuffle.{shuffled}
use Rattle.bridge_cards.specs.declared.seat.Seat.{Seat}
use Rattle.bridge_cards.specs.Seat.{seat_number}
use Rattle.bridge_cards.specs.CardSet.{has_card, deck}
use Rattle.bridge_cards.specs.Deal.{hand_at}

-- the generator of a board: the seed's stream of the board's number, from its first word on
abbrev pub generator_of : List ℕ → ℕ → ChaCha
generator_of seed board = record (of_seed seed) { stream = board }

-- the deck in order, shuffled by ChaCha20, which is ten double rounds
unfoldable pub shuffled_deck : List ℕ → ℕ → List ℕ
shuffled_deck seed board = (shuffled deck 0 (stream_of (steps_u32 (next_word 10)) (generator_of seed board))).0

-- the cards that a seat is dealt: North the first 13, and then clockwise
abbrev pub cards_dealt : List ℕ → Seat → List ℕ
cards_dealt cards seat = take 13 (drop (13 * seat_number seat) cards)

-- each hand has the cards that its seat is dealt, and no other
abbrev pub IsDealtFrom : List ℕ → List ℕ → Type 0
IsDealtFrom cards hands =
    (seat : Seat) (card : ℕ) → IsTrue (has_card (hand_at hands seat) card) ↔ Contains (cards_dealt cards seat) card
