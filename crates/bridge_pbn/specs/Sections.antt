-- The sections of a game: its calls, and its cards by tricks.
use Rattle.std.specs.Prelude.{ℕ, ◌+◌, ◌-◌, ◌*◌, ◌/◌, ◌%◌, nat_lt, if◌then◌else◌, List, [], ◌∷◌, ◌++◌, codes, length, take, drop, map, slice_index, Option}
use Rattle.std.specs.List.{range_with_len}
use Rattle.std.specs.Option.{option_map_or}
use Rattle.bridge_cards.specs.declared.seat.Seat.{Seat}
use Rattle.bridge_cards.specs.Seat.{seat_letter, seat_number, clockwise_from}
use Rattle.bridge_cards.specs.Card.{card_text}
use Rattle.bridge_auction.specs.declared.call.Call.{Call}
use Rattle.bridge_auction.specs.declared.call.Call.TheVariants.{Pass, Bid, Double, Redouble}
use Rattle.bridge_auction.specs.declared.contract.Contract.{Contract}
use Rattle.bridge_auction.specs.Spelling.{bid_text}
use Rattle.bridge_play.specs.Play.{PlayValue}
use Rattle.bridge_play.specs.Trick.{whole_tricks, leader_of}
use Rattle.line_text.specs.Words.{spaced}
use Rattle.bridge_pbn.specs.Tags.{tag}

-- a call, as `Pass`, `X`, `XX` or `1NT`
abbrev pub call_word : Call → List ℕ
call_word Pass = codes "Pass"
call_word (Bid bid) = bid_text bid
call_word Double = codes "X"
call_word Redouble = codes "XX"

-- the calls of a line, the lines counted from 0: four, or what is left
abbrev pub calls_line : List Call → ℕ → List ℕ
calls_line calls line = spaced (map call_word (take 4 (drop (4 * line) calls)))

-- The Auction section: the dealer, and the calls, four a line.
abbrev pub auction_lines : Seat → List Call → List (List ℕ)
auction_lines dealer calls =
    tag (codes "Auction") (seat_letter dealer ∷ []) ∷ map (calls_line calls) (range_with_len 0 ((length calls + 3) / 4))

-- how many places a seat is clockwise from another
abbrev pub places_from : Seat → Seat → ℕ
places_from first seat = (4 + seat_number seat - seat_number first) % 4

-- the card that a seat played to a trick, the tricks counted from 0: the leader played the first of its four
abbrev pub card_by : Contract → List ℕ → ℕ → Seat → ℕ
card_by contract cards trick seat = slice_index cards (4 * trick + places_from (leader_of contract cards trick) seat)

-- the card in a column of a trick's line: the columns go clockwise from the opening leader in every line
abbrev pub column_text : Contract → List ℕ → ℕ → ℕ → List ℕ
column_text contract cards trick column = card_text (card_by contract cards trick (clockwise_from (leader_of contract cards 0) column))

-- the line of a trick: a card in each column
abbrev pub trick_line : Contract → List ℕ → ℕ → List ℕ
trick_line contract cards trick = spaced (map (column_text contract cards trick) (0 ∷ 1 ∷ 2 ∷ 3 ∷ []))

-- a star where fewer than the 13 tricks were played
abbrev pub star_lines : ℕ → List (List ℕ)
star_lines tricks = if nat_lt tricks 13 then codes "*" ∷ [] else []

-- The Play section: the opening leader, and the tricks that were played, one a line.
abbrev pub trick_lines : Contract → List ℕ → List (List ℕ)
trick_lines contract cards =
    tag (codes "Play") (seat_letter (leader_of contract cards 0) ∷ [])
    ∷ (map (trick_line contract cards) (range_with_len 0 (whole_tricks cards)) ++ star_lines (whole_tricks cards))

-- none where the board was passed out
abbrev pub play_lines : Option PlayValue → List (List ℕ)
play_lines play = option_map_or (λ (p : PlayValue). trick_lines p.contract p.cards) play []
