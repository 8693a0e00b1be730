-- Where a pair sits in each round.
use Rattle.std.specs.Prelude.{ℕ, ◌+◌, ◌-◌, ◌==◌, if◌then◌else◌, List, [], ◌∷◌, ◌++◌, codes, flat_map, slice_index_or, Option, None, Some}
use Rattle.std.specs.List.{range_with_len}
use Rattle.std.specs.Fmt.{decimal}
use Rattle.bridge_movement.specs.declared.row.Row.{Row}
use Rattle.bridge_config.specs.ConfigValue.{both_names}
use Rattle.page_layout.specs.declared.format.Format.{Format}
use Rattle.page_layout.specs.declared.format.Format.TheVariants.{Plain}
use Rattle.page_layout.specs.Table.{row_text, title_row}
use Rattle.evening_plan.specs.declared.columns.TheConstants.{PLAY_COLUMNS, REST_COLUMNS}
use Rattle.evening_plan.specs.Evening.{Evening}
use Rattle.evening_plan.specs.Seat.{seat_row}
use Rattle.bridge_movement.specs.Boards.{boards_before, last_board}

-- the heading of a pair: an empty line, its number and its names
unfoldable pub pair_words : ℕ → List (List ℕ) → List ℕ
pair_words pair names = (((codes "\nPair " ++ decimal pair) ++ codes ": ") ++ both_names names) ++ codes "\n"

-- the titles of its rounds
unfoldable pub round_titles : Format → List ℕ
round_titles format =
    title_row format PLAY_COLUMNS
    (codes "Round" ∷ codes "Table" ∷ codes "Side" ∷ codes "Against" ∷ codes "Set" ∷ codes "Boards" ∷ [])

-- the boards of a set, of so many boards
abbrev pub boards_cell : ℕ → ℕ → List ℕ
boards_cell boards set =
    if boards == 1 then decimal set
    else (decimal (boards_before boards set + 1) ++ codes " to ") ++ decimal (last_board boards set)

-- a round that is played: the round, the table, the side, the pair against it, the set and its boards
unfoldable pub played_row : ℕ → Row → List ℕ → ℕ → List ℕ
played_row boards row side against =
    row_text Plain PLAY_COLUMNS
    (decimal row.round ∷ decimal row.table ∷ side ∷ decimal against ∷ decimal row.set ∷ boards_cell boards row.set ∷ [])

-- a round in which the pair has no opponents
unfoldable pub rest_row : ℕ → List ℕ
rest_row round = row_text Plain REST_COLUMNS (decimal round ∷ codes "sits out" ∷ [])

-- a round, by the row that the pair plays
abbrev pub round_row : ℕ → ℕ → ℕ → Option Row → List ℕ
round_row boards pair round None = rest_row round
round_row boards pair round (Some row) =
    if row.ns == pair then played_row boards row (codes "NS") row.ew else played_row boards row (codes "EW") row.ns

-- a round of a pair
abbrev pub round_text : Evening → ℕ → ℕ → List ℕ
round_text evening pair round = round_row evening.heading.boards pair round (seat_row round pair evening.movement.rows)

-- the rounds of a pair
unfoldable pub rounds_text : Evening → ℕ → List ℕ
rounds_text evening pair = flat_map (round_text evening pair) (range_with_len 1 evening.movement.shape.rounds)

-- A pair: its heading, and a row for each round.
unfoldable pub pair_plan : Evening → ℕ → List ℕ
pair_plan evening pair =
    pair_words pair (slice_index_or evening.names (pair - 1) []) ++ (round_titles Plain ++ rounds_text evening pair)
