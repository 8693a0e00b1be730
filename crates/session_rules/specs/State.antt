-- What contracts see of a session, who acts in it, and where.
use Rattle.std.specs.Prelude.{ℕ, ◌+◌, ◌-◌, ◌*◌, nat_lt, nat_le, Bool, true, false, ◌==◌, ◌&&◌, ◌||◌, if◌then◌else◌, is_some, is_none, map, replicate, List, [], slice_get, slice_set, slice_index, position, unwrap_or, ok_or, Option, None, Result, Ok, Err}
use Rattle.std.specs.List.{position_or_len, range_with_len}
use Rattle.std.specs.Option.{option_map, option_map_or}
use Rattle.bridge_cards.specs.declared.seat.Seat.{Seat}
use Rattle.bridge_cards.specs.declared.seat.Seat.TheVariants.{North, East, South, West}
use Rattle.bridge_cards.specs.declared.seat.Side.{Side}
use Rattle.bridge_cards.specs.declared.seat.Side.TheVariants.{NorthSouth, EastWest}
use Rattle.bridge_movement.specs.declared.place.Place.{Place}
use Rattle.bridge_movement.specs.declared.row.Row.{Row}
use Rattle.bridge_movement.specs.declared.shape.Shape.{Shape}
use Rattle.bridge_movement.specs.Row.{is_live}
use Rattle.bridge_movement.specs.Seating.{place_of}
use Rattle.bridge_config.specs.ConfigValue.{ConfigValue, Pair}
use Rattle.session_rules.specs.declared.action.PlayId.{PlayId}
use Rattle.session_rules.specs.declared.refused.Refused.{Refused}
use Rattle.session_rules.specs.declared.refused.Refused.TheVariants.{NoKey, NotAllowed, Closed, SitsOut}
use Rattle.session_rules.specs.declared.seating.Player.{Player}
use Rattle.session_rules.specs.declared.seating.Seating.{Seating}
use Rattle.session_rules.specs.Answer.{Answer}
use Rattle.session_rules.specs.Record.{PlainRecord, empty_record, is_open}
use Rattle.bridge_movement.specs.Boards.{boards_before, last_board}
use Rattle.bridge_movement.specs.Shape.{index_of_row}

-- the hands of each board that is dealt, by the boards' numbers
abbrev pub Deals : Type 0
Deals = List (Option (List ℕ))

-- The configuration, the round, the deal of each board by the boards' numbers, and for each row of the movement the
-- records of its plays in order: one for each board of its set where the row is live, and otherwise none. The round is
-- one more than the last once the session is closed.
pub record SessionValue : Type 0 where
  pub configuration : ConfigValue
  pub round : ℕ
  pub deals : Deals
  pub records : List (List PlainRecord)

-- the boards that a row plays: those of its set where the row is live
abbrev pub row_boards : ℕ → Row → List ℕ
row_boards boards row = if is_live row then range_with_len (boards_before boards row.set + 1) boards else []

-- the records of a row at the opening
abbrev pub opening_row : ℕ → Row → List PlainRecord
opening_row boards row = map empty_record (row_boards boards row)

-- The opening session of a configuration: round 1, no board dealt, and nothing has happened in any play.
abbrev pub opening : ConfigValue → SessionValue
opening configuration = record {
  configuration = configuration;
  round = 1;
  deals = replicate (configuration.movement.shape.sets * configuration.boards) None;
  records = map (opening_row configuration.boards) configuration.movement.rows;
}

-- the deal of a board, if the session has the board and it is dealt
abbrev pub deal_on : Deals → ℕ → Option (List ℕ)
deal_on deals board = unwrap_or (slice_get deals (board - 1)) None

-- the hands of a board, once it is dealt
abbrev pub hands_on : Deals → ℕ → List ℕ
hands_on deals board = unwrap_or (deal_on deals board) []

-- the records of a row
abbrev pub row_at : List (List PlainRecord) → ℕ → List PlainRecord
row_at records index = unwrap_or (slice_get records index) []

-- a list, in which the element at that index is changed
abbrev pub changed_at : {A : Type 0} → (A → A) → List A → ℕ → List A
changed_at change xs index = option_map_or (λ x. slice_set xs index (change x)) (slice_get xs index) xs

-- the index of a table's current play among its records: the first that is neither finished, void nor adjusted
abbrev pub current_index : List PlainRecord → ℕ
current_index records = position_or_len is_open records

-- whether the key is one of the pair's players'
abbrev pub has_key : ℕ → Pair → Bool
has_key key pair = slice_index pair.keys 0 == key || slice_index pair.keys 1 == key

-- whether the key is that of the first player of the pair at that index
abbrev pub is_first_key : List Pair → ℕ → ℕ → Bool
is_first_key pairs key index = option_map_or (λ (pair : Pair). slice_index pair.keys 0 == key) (slice_get pairs index) false

-- the player of these pairs whose key it is
abbrev pub player_in : List Pair → ℕ → Option Player
player_in pairs key =
    option_map (λ (index : ℕ). record { pair = index + 1; first = is_first_key pairs key index }) (position (has_key key) pairs)

-- the player whose key it is
abbrev pub player_of : ConfigValue → ℕ → Option Player
player_of configuration key = player_in configuration.pairs key

-- whether a key is nobody's: neither the director's nor a player's
abbrev pub is_nobodys : ConfigValue → ℕ → Bool
is_nobodys configuration key = if key == configuration.director then false else is_none (player_of configuration key)

-- the player who may act by the key
abbrev pub acting_player : ConfigValue → ℕ → Result Player Refused
acting_player configuration key =
    if key == configuration.director then Err NotAllowed else ok_or (player_of configuration key) NoKey

-- whether the director may act by the key
abbrev pub director_answer : ConfigValue → ℕ → Answer
director_answer configuration key =
    if key == configuration.director then Ok tt else Err (if is_some (player_of configuration key) then NotAllowed else NoKey)

-- the first player of a pair sits North or East, the second South or West
abbrev pub seat_on : Side → Bool → Seat
seat_on NorthSouth true = North
seat_on NorthSouth false = South
seat_on EastWest true = East
seat_on EastWest false = West

-- there is such a round and such a table
abbrev pub is_row_within : Shape → ℕ → ℕ → Bool
is_row_within shape round table = nat_le round shape.rounds && nat_le table shape.tables

-- the record of a play, if there is such a play at a live row
abbrev pub record_of : SessionValue → PlayId → Option PlainRecord
record_of s play =
    if is_row_within s.configuration.movement.shape play.round play.table
    then slice_get (row_at s.records (index_of_row s.configuration.movement.shape play.round play.table)) (play.index - 1)
    else None

-- the session is closed after the last round
abbrev pub is_closed : ConfigValue → ℕ → Bool
is_closed configuration round = nat_lt configuration.movement.shape.rounds round

-- where a player sits, by the place of the pair
abbrev pub seating_at : ConfigValue → ℕ → Bool → Place → Seating
seating_at configuration round first place = record {
  row = index_of_row configuration.movement.shape round place.table;
  table = place.table;
  seat = seat_on place.side first;
  set = place.set;
}

-- where the player sits in the round
abbrev pub seated : ConfigValue → ℕ → Result Player Refused → Result Seating Refused
seated configuration round (Err refused) = Err refused
seated configuration round (Ok player) =
    if is_closed configuration round then Err Closed
    else ok_or (option_map (seating_at configuration round player.first) (place_of configuration.movement.rows round player.pair)) SitsOut

-- where the player of the key sits in the round
abbrev pub seating_of : ConfigValue → ℕ → ℕ → Result Seating Refused
seating_of configuration round key = seated configuration round (acting_player configuration key)

-- the boards of a set
abbrev pub is_of_set : ConfigValue → ℕ → ℕ → Bool
is_of_set configuration set board =
    nat_lt (boards_before configuration.boards set) board && nat_le board (last_board configuration.boards set)

-- whether the key's holder may see rankings: the director may, and a player once the session is closed
abbrev pub ranking_asker : ConfigValue → ℕ → ℕ → Answer
ranking_asker configuration round key =
    if key == configuration.director then Ok tt
    else if is_some (player_of configuration key) then (if is_closed configuration round then Ok tt else Err NotAllowed)
    else Err NoKey
