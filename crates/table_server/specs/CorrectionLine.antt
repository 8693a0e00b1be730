-- Which line states which correction of the director.
use Rattle.std.specs.Prelude.{ℕ, zero, suc, ◌-◌, ◌==◌, ◌&&◌, nat_le, Bool, if◌then◌else◌, List, [], ◌∷◌, length, take, slice_index, codes, Option, Some, None}
use Rattle.std.specs.Str.{bytes_eq}
use Rattle.line_text.specs.Words.{only_word}
use Rattle.bridge_cards.specs.declared.seat.Seat.{Seat}
use Rattle.bridge_cards.specs.declared.seat.Seat.TheVariants.{North, East, South, West}
use Rattle.bridge_auction.specs.declared.call.Call.{Call}
use Rattle.bridge_auction.specs.declared.call.Call.TheVariants.{Bid}
use Rattle.bridge_auction.specs.declared.contract.Doubling.{Doubling}
use Rattle.bridge_auction.specs.declared.contract.Doubling.TheVariants.{Undoubled, Doubled, Redoubled}
use Rattle.bridge_auction.specs.Spelling.{call_of}
use Rattle.session_rules.specs.declared.action.Action.{Action}
use Rattle.session_rules.specs.declared.action.Action.TheVariants.{Back, Undeal, Assign}
use Rattle.line_replies.specs.KeyWord.{key_of_word}
use Rattle.table_server.specs.declared.asked.Asked.{Asked}
use Rattle.table_server.specs.declared.asked.Asked.TheVariants.{Change, BadLine}
use Rattle.table_server.specs.declared.correction_lines.DoubledBid.{DoubledBid}
use Rattle.table_server.specs.LineWords.{◌>>=◌, first_of, board_of_word, tricks_of_word}
use Rattle.table_server.specs.LineCommand.{play_words, play_and_words}

-- a letter X stands so many places from the end of a word
abbrev pub is_cross : List ℕ → ℕ → Bool
is_cross word back = nat_le back (length word) && (slice_index word (length word - back) == 88)

-- how many letters X a word ends with, two at most
abbrev pub crosses_of : List ℕ → ℕ
crosses_of word = if is_cross word 1 then (if is_cross word 2 then 2 else 1) else 0

-- the doubling that so many of them say
abbrev pub doubling_of : ℕ → Doubling
doubling_of zero = Undoubled
doubling_of (suc zero) = Doubled
doubling_of (suc (suc more)) = Redoubled

-- a call that is a bid, with a doubling
abbrev pub doubled : Option Call → Doubling → Option DoubledBid
doubled (Some (Bid bid)) doubling = Some (record { bid = bid; doubling = doubling })
doubled _ doubling = None

-- a bid, with X or XX behind it where it is doubled or redoubled
abbrev pub doubled_bid_of : List ℕ → Option DoubledBid
doubled_bid_of word = doubled (call_of (take (length word - crosses_of word) word)) (doubling_of (crosses_of word))

-- a seat's letter
abbrev pub seat_of_word : List ℕ → Option Seat
seat_of_word word =
    if bytes_eq word (codes "N") then Some North
    else if bytes_eq word (codes "E") then Some East
    else if bytes_eq word (codes "S") then Some South
    else if bytes_eq word (codes "W") then Some West
    else None

-- a key and a play, in which the latest thing done is taken back
unfoldable pub back_line : List (List ℕ) → Option Action
back_line words = do
  key ← first_of key_of_word words
  play ← play_words key.1
  Some (Back key.0 play)

-- a key, and a board that is not dealt any more
unfoldable pub undeal_line : List (List ℕ) → Option Action
undeal_line words = do
  key ← first_of key_of_word words
  word ← only_word key.1
  board ← board_of_word word
  Some (Undeal key.0 board)

-- a key, a play, and the contract and declarer's tricks as which it is scored
unfoldable pub assign_line : List (List ℕ) → Option Action
assign_line words = do
  key ← first_of key_of_word words
  play ← play_and_words key.1
  bid ← first_of doubled_bid_of play.1
  declarer ← first_of seat_of_word bid.1
  word ← only_word declarer.1
  tricks ← tricks_of_word word
  Some (Assign key.0 play.0 (record { bid = bid.0.bid; doubling = bid.0.doubling; declarer = declarer.0 }) tricks)

-- the correction by its keyword and the words after it
abbrev pub correction_after : List ℕ → List (List ℕ) → Option Action
correction_after keyword words =
    if bytes_eq keyword (codes "BACK") then back_line words
    else if bytes_eq keyword (codes "UNDEAL") then undeal_line words
    else if bytes_eq keyword (codes "ASSIGN") then assign_line words
    else None

-- the correction that the words of a line state: a keyword alone states none
abbrev pub correction_of : List (List ℕ) → Option Action
correction_of [] = None
correction_of (keyword ∷ []) = None
correction_of (keyword ∷ word ∷ words) = correction_after keyword (word ∷ words)

-- what a line asks for that states it, or none
abbrev pub asked_to_correct : Option Action → Asked
asked_to_correct None = BadLine
asked_to_correct (Some action) = Change action
