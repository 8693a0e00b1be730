-- The plays of a pair that are over, and what is known of each.
use Rattle.std.specs.Prelude.{ℕ, Bool, ◌&&◌, ◌||◌, nat_lt, if◌then◌else◌, List, [], ◌∷◌, flat_map, Option, Some, None, option_and_then}
use Rattle.std.specs.List.{filter_map}
use Rattle.std.specs.Option.{option_map_or}
use Rattle.bridge_cards.specs.declared.seat.Side.{Side}
use Rattle.bridge_movement.specs.declared.row.Row.{Row}
use Rattle.session_rules.specs.State.{SessionValue}
use Rattle.bridge_results.specs.Plays.{has_outcome}
use Rattle.bridge_results.specs.ScoreCard.{side_at}
use Rattle.board_replies.specs.KnownPlay.{KnownPlay, is_known_finished, known_at}

-- A play of a pair that is over: the row in which it sat, on which side, the index of the board in the set, and
-- what is known.
pub record OwnPlay : Type 0 where
  pub row : Row
  pub side : Side
  pub index : ℕ
  pub known : KnownPlay

-- Whether the play of a row is over in a round: it is finished; or it is void or adjusted and its round has ended, so that the
-- ruling cannot be taken back and nobody goes on with it.
abbrev pub is_over_in : ℕ → Row → KnownPlay → Bool
is_over_in round row known = has_outcome known.outcome && (is_known_finished known || nat_lt row.round round)

-- the play of which so much is known, if it is over in that round
abbrev pub own_play_by : ℕ → Row → Side → ℕ → KnownPlay → Option OwnPlay
own_play_by round row side index known =
    if is_over_in round row known then Some (record { row = row; side = side; index = index; known = known }) else None

-- the play of the board at an index of a row's set, if it is over
abbrev pub own_play_at : SessionValue → Row → Side → ℕ → Option OwnPlay
own_play_at s row side index = option_and_then (own_play_by s.round row side index) (known_at s row index)

-- the plays of a row's set, of at most three boards
abbrev pub own_plays_at : SessionValue → Row → Side → List OwnPlay
own_plays_at s row side = filter_map (own_play_at s row side) (1 ∷ 2 ∷ 3 ∷ [])

-- those of the pair, if it sat there
abbrev pub own_plays_in : SessionValue → ℕ → Row → List OwnPlay
own_plays_in s pair row = option_map_or (own_plays_at s row) (side_at pair row) []

-- The plays of a pair that are over, by round and by the index in the set.
unfoldable pub own_plays : SessionValue → ℕ → List OwnPlay
own_plays s pair = flat_map (own_plays_in s pair) s.configuration.movement.rows
