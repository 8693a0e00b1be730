-- The session that parts name. But for a claim it is read without any test: what the parts lack is read as 0, and what is too
-- much is passed over.
use Rattle.std.specs.Prelude.{ℕ, ◌+◌, ◌*◌, ◌/◌, ◌%◌, ◌==◌, Bool, if◌then◌else◌, List, [], ◌∷◌, map, take, drop, slice_index, slice_index_or, Option, Some, None, unwrap_or, option_map, option_and_then}
use Rattle.std.specs.Int.{w16, w32, w64, from_be_bytes}
use Rattle.std.specs.List.{range_with_len}
use Rattle.std.specs.Option.{option_map_or}
use Rattle.bridge_auction.specs.declared.call.Call.{Call}
use Rattle.bridge_auction.specs.declared.call.Call.TheVariants.{Pass}
use Rattle.bridge_auction.specs.Call.{call_at}
use Rattle.bridge_movement.specs.declared.row.Row.{Row}
use Rattle.bridge_movement.specs.declared.shape.Shape.{Shape}
use Rattle.bridge_movement.specs.Shape.{row_count}
use Rattle.bridge_play.specs.declared.claim.Claim.{Claim}
use Rattle.bridge_cards.specs.declared.scoring.Scoring.{Scoring}
use Rattle.bridge_cards.specs.declared.scoring.Scoring.TheVariants.{MatchPoints, Imps}
use Rattle.bridge_config.specs.ConfigValue.{ConfigValue, Pair}
use Rattle.session_rules.specs.declared.average.Average.{Average}
use Rattle.session_rules.specs.declared.average.Average.TheVariants.{Even}
use Rattle.session_rules.specs.declared.ruling.Ruling.{Ruling}
use Rattle.session_rules.specs.declared.ruling.Ruling.TheVariants as ruling
use Rattle.session_rules.specs.Average.{average_of}
use Rattle.session_rules.specs.Record.{PlainRecord}
use Rattle.session_rules.specs.State.{SessionValue, row_boards}
use Rattle.session_bytes.specs.AssignedBytes.{assigned_contract, assigned_tricks}
use Rattle.session_bytes.specs.ClaimRead.{claim_at}

-- the text that bytes begin with, after its length
abbrev pub text_in : List ℕ → List ℕ
text_in [] = []
text_in (count ∷ bytes) = take count bytes

-- what comes after that text
abbrev pub after_text : List ℕ → List ℕ
after_text [] = []
after_text (count ∷ bytes) = drop count bytes

-- The configuration

-- the scoring of a number: 0 for matchpoints, 1 for IMPs
abbrev pub scoring_at : ℕ → Scoring
scoring_at number = if number == 0 then MatchPoints else Imps

-- the numbers after the date: the scoring, the boards of a set, the shape, the director's key and the round
abbrev pub numbers_in : List ℕ → List ℕ
numbers_in heading = drop 10 (after_text (after_text heading))

-- the shape: the numbers of tables, rounds, sets and pairs, and the last pair of the first field
abbrev pub shape_of_numbers : List ℕ → Shape
shape_of_numbers numbers = record {
  tables = slice_index numbers 2;
  rounds = slice_index numbers 3;
  sets = slice_index numbers 4;
  pairs = slice_index numbers 5;
  split = slice_index numbers 6;
}

-- the row at an index, of the round and the table that are due there, by its three numbers
abbrev pub row_of_part : ℕ → List ℕ → ℕ → Row
row_of_part tables movement index = record {
  round = index / tables + 1;
  table = index % tables + 1;
  ns = slice_index movement (index * 3);
  ew = slice_index movement (index * 3 + 1);
  set = slice_index movement (index * 3 + 2);
}

-- as many rows as the shape has
abbrev pub rows_of_part : Shape → List ℕ → List Row
rows_of_part shape movement = map (row_of_part shape.tables movement) (range_with_len 0 (row_count shape))

-- the key of four bytes
abbrev pub key_in : List ℕ → ℕ
key_in bytes = from_be_bytes w32 (take 4 bytes)

-- the second player of a pair, who comes after the first one's name and key
abbrev pub second_player : List ℕ → List ℕ
second_player part = drop 4 (after_text part)

-- a pair: the name and the key of each player
abbrev pub pair_of_part : List ℕ → Pair
pair_of_part part = record {
  names = text_in part ∷ text_in (second_player part) ∷ [];
  keys = key_in (after_text part) ∷ key_in (after_text (second_player part)) ∷ [];
}

-- the configuration of the first part, the second, and the parts that begin with those of the pairs
abbrev pub configuration_in : List ℕ → List ℕ → List (List ℕ) → ConfigValue
configuration_in heading movement rest = record {
  event = text_in heading;
  site = text_in (after_text heading);
  date = take 10 (after_text (after_text heading));
  scoring = scoring_at (slice_index (numbers_in heading) 0);
  boards = slice_index (numbers_in heading) 1;
  movement = record { shape = shape_of_numbers (numbers_in heading); rows = rows_of_part (shape_of_numbers (numbers_in heading)) movement };
  director = key_in (drop 7 (numbers_in heading));
  pairs = map pair_of_part (take (slice_index (numbers_in heading) 5) rest);
}

-- Boards

-- the hand of eight bytes
abbrev pub hand_at_front : List ℕ → ℕ
hand_at_front bytes = from_be_bytes w64 (take 8 bytes)

-- four hands, one after the other
abbrev pub hands_at_front : List ℕ → List ℕ
hands_at_front bytes =
    hand_at_front bytes ∷ hand_at_front (drop 8 bytes) ∷ hand_at_front (drop 16 bytes) ∷ hand_at_front (drop 24 bytes) ∷ []

-- a board: none where its part begins with 0, and otherwise the four hands
abbrev pub deal_of : List ℕ → Option (List ℕ)
deal_of part = if slice_index part 0 == 0 then None else Some (hands_at_front (drop 1 part))

-- Plays

-- the call of a number, or else a pass
abbrev pub call_or_pass : ℕ → Call
call_or_pass number = unwrap_or (call_at number) Pass

-- the number of calls, of two bytes
abbrev pub call_count : List ℕ → ℕ
call_count part = from_be_bytes w16 (take 2 part)

-- what comes after the calls
abbrev pub after_calls : List ℕ → List ℕ
after_calls part = drop (call_count part) (drop 2 part)

-- what comes after the cards
abbrev pub after_cards : List ℕ → List ℕ
after_cards part = after_text (after_calls part)

-- the claim, if it is in form and there is one
abbrev pub claim_in : List ℕ → Option Claim
claim_in bytes = option_and_then (λ (read : Option Claim × Bool × List ℕ). read.0) (claim_at bytes)

-- what comes after a claim that is in form
abbrev pub after_claim : List ℕ → List ℕ
after_claim bytes = option_map_or (λ (read : Option Claim × Bool × List ℕ). read.2) (claim_at bytes) []

-- the average of so many per cent, or else that of 50
abbrev pub average_or_even : ℕ → Average
average_or_even percent = unwrap_or (average_of percent) Even

-- the assigned score of these bytes
abbrev pub assigned_at_front : ℕ → ℕ → Option Ruling
assigned_at_front first second =
    option_map (λ contract. ruling.Assigned contract (assigned_tricks second)) (assigned_contract first second)

-- a ruling: none at 0, the tricks at 1, the averages of both sides at 3, an assigned score at 4, and otherwise a void play
abbrev pub ruling_at_front : List ℕ → Option Ruling
ruling_at_front bytes =
    if slice_index bytes 0 == 0 then None
    else if slice_index bytes 0 == 1 then Some (ruling.Tricks (slice_index bytes 1))
    else if slice_index bytes 0 == 3 then Some (ruling.Adjusted (average_or_even (slice_index bytes 1)) (average_or_even (slice_index bytes 2)))
    else if slice_index bytes 0 == 4 then assigned_at_front (slice_index bytes 1) (slice_index bytes 2)
    else Some ruling.Void

-- the record of the play of a board
abbrev pub record_in : ℕ → List ℕ → PlainRecord
record_in board part = record {
  board = board;
  calls = map call_or_pass (take (call_count part) (drop 2 part));
  cards = text_in (after_calls part);
  claims = slice_index (after_cards part) 0;
  claim = claim_in (drop 1 (after_cards part));
  ruling = ruling_at_front (after_claim (drop 1 (after_cards part)));
}

-- the records of these boards, by their parts in order
abbrev pub records_in : List ℕ → List (List ℕ) → List PlainRecord
records_in [] parts = []
records_in (board ∷ boards) parts = record_in board (slice_index_or parts 0 []) ∷ records_in boards (drop 1 parts)

-- the records of each row, which has a part for each board of its set, whether it is live or not
abbrev pub tables_in : ℕ → List Row → List (List ℕ) → List (List PlainRecord)
tables_in boards [] parts = []
tables_in boards (row ∷ rows) parts = records_in (row_boards boards row) parts ∷ tables_in boards rows (drop boards parts)

-- The session

-- the session of a configuration and a round, by the parts of the boards and then those of the plays
abbrev pub state_with : ConfigValue → ℕ → List (List ℕ) → SessionValue
state_with configuration round rest =
    let boards = configuration.movement.shape.sets * configuration.boards in
    record {
      configuration = configuration;
      round = round;
      deals = map deal_of (take boards rest);
      records = tables_in configuration.boards configuration.movement.rows (drop boards rest);
    }

-- the session of the first part, the second, and the rest
abbrev pub state_in : List ℕ → List ℕ → List (List ℕ) → SessionValue
state_in heading movement rest =
    state_with (configuration_in heading movement rest) (slice_index (numbers_in heading) 11) (drop (slice_index (numbers_in heading) 5) rest)

-- the session that parts name
abbrev pub state_read : List (List ℕ) → SessionValue
state_read parts = state_in (slice_index_or parts 0 []) (slice_index_or parts 1 []) (drop 2 parts)
