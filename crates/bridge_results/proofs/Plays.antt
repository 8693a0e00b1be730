-- The plays of a session, row by row, and their games.
use Rattle.std.proofs.Common.{◌≡◌, ◌+◌, ◌-◌, ◌*◌, ◌/◌, ◌%◌, ◌<◌, ◌≤◌, ◌&&◌, ℕ, zero, suc, Bool, true, false, cond, List, [], ◌∷◌, ◌++◌, length, get_or, map, Option, Some, None, refl, sym, ap, ◌∙◌, arith, mod-lt, div-lt_iff_lt-mul}
use Rattle.std.specs.Prelude.{nat_le, zip, flat_map, slice_get, unwrap_or, option_and_then, IfSome, All}
use Rattle.std.specs.List.{cons_option, filter_map, range_with_len}
use Rattle.std.specs.Option.{option_map, option_to_list}
use Rattle.std.proofs.Math.Nat.{div-add-mod}
use Rattle.std.proofs.lemmas.Bool.{le-leb, leb-true, and_parts}
use Rattle.std.proofs.lemmas.List.{length-map}
use Rattle.std.proofs.lemmas.List.Elements.{filter_map-append, All-nil, All-cons}
use Rattle.std.proofs.lemmas.List.FromFn.{length-range_with_len, get_or-range_with_len}
use Rattle.std.proofs.lemmas.Option.{slice_get_within, slice_get-get_or, slice_get-map, get_or_from_slice_get}
use Rattle.bridge_movement.specs.declared.row.Row.{Row}
use Rattle.bridge_movement.specs.declared.shape.Shape.{Shape}
use Rattle.bridge_movement.specs.Row.{is_live}
use Rattle.bridge_movement.specs.Shape.{IsShape, index_of_row}
use Rattle.bridge_movement.specs.Fair.{IsDue, IsMovement}
use Rattle.bridge_ranking.specs.declared.game.Game.{Game}
use Rattle.bridge_ranking.specs.Ranking.{game_by, game_in, games_in, games_of}
use Rattle.session_rules.specs.declared.outcome.Outcome.{Outcome}
use Rattle.session_rules.specs.declared.outcome.Outcome.TheVariants.{Unfinished, PassedOut, Played, Voided, Adjusted, Assigned}
use Rattle.session_rules.specs.Outcome.{outcome_of}
use Rattle.session_rules.specs.Record.{PlainRecord}
use Rattle.session_rules.specs.State.{SessionValue, row_at, row_boards, is_row_within, record_of}
use Rattle.session_rules.specs.StateRange.{IsSession}
use Rattle.session_rules.specs.Valid.{board_of}
use Rattle.bridge_results.specs.declared.play.TablePlay.{TablePlay}
use Rattle.bridge_results.specs.Plays.{play_by, table_play_in, plays_in, plays_of, plays_at}
use Rattle.bridge_results.specs.Comparison.{game_of}

-- the rows of a movement stand by round, then by table
pub row_there : (shape : Shape) (rows : List Row) (i : ℕ) (d : Row) → IsShape shape → IsMovement shape rows → i < length rows →
    (is_row_within shape (get_or rows i d).round (get_or rows i d).table ≡ true) × (index_of_row shape (get_or rows i d).round (get_or rows i d).table ≡ i)
row_there shape rows i d limits movement within =
    let row = get_or rows i d in
    let due : IsDue shape i row = (movement.complete.order i within).1 d in
    let some : 0 < shape.tables = omega (arith, limits.tables.0) in
    let round : i / shape.tables < shape.rounds = (div-lt_iff_lt-mul some).1 due.0 in
    let table : i % shape.tables < shape.tables = mod-lt i some in
    let first : row.round - 1 ≡ i / shape.tables = omega (arith, due.1) in
    let later : row.table - 1 ≡ i % shape.tables = omega (arith, due.2) in (
      ap (λ b. b && nat_le row.table shape.tables) (le-leb row.round shape.rounds (omega (arith, due.1)))
          ∙ le-leb row.table shape.tables (omega (arith, due.2)),
      ap (λ n. n * shape.tables + (row.table - 1)) first
          ∙ ap (λ n. i / shape.tables * shape.tables + n) later
          ∙ omega (arith, div-add-mod i shape.tables),
    )

-- the record of a play stands at its index among those of its row
pub record_there : (s : SessionValue) (i : ℕ) (d : Row) (index : ℕ) → IsSession s → i < length s.configuration.movement.rows →
    record_of s (record { round = (get_or s.configuration.movement.rows i d).round; table = (get_or s.configuration.movement.rows i d).table; index = index }) ≡ slice_get (row_at s.records i) (index - 1)
record_there s i d index is within =
    let shape = s.configuration.movement.shape in
    let row = get_or s.configuration.movement.rows i d in
    let there = row_there shape s.configuration.movement.rows i d is.valid.configured.shape is.valid.configured.movement within in
    ap (λ b. cond b (slice_get (row_at s.records (index_of_row shape row.round row.table)) (index - 1)) None) there.0
    ∙ ap (λ k. slice_get (row_at s.records k) (index - 1)) there.1

-- the boards of a row's records
from_some : (o : Option (List PlainRecord)) (boards : List ℕ) → option_map (map board_of) o ≡ Some boards → map board_of (unwrap_or o []) ≡ boards
from_some None boards e = absurd cc
from_some (Some table) boards e = cc

pub boards_there : (s : SessionValue) (i : ℕ) (d : Row) → IsSession s → i < length s.configuration.movement.rows →
    map board_of (row_at s.records i) ≡ row_boards s.configuration.boards (get_or s.configuration.movement.rows i d)
boards_there s i d is within =
    let rows = s.configuration.movement.rows in
    let boards = row_boards s.configuration.boards in
    from_some (slice_get s.records i) (boards (get_or rows i d))
    (sym (slice_get-map (map board_of) s.records i)
    ∙ ap (λ (lists : List (List ℕ)). slice_get lists i) is.valid.of_boards
    ∙ slice_get-map boards rows i
    ∙ ap (option_map boards) (slice_get-get_or rows i d within))

-- there are at most three
boards_few : (live : Bool) (a n : ℕ) → n ≤ 3 → length (cond live (range_with_len a n) []) ≤ 3
boards_few true a n few = omega (arith, length-range_with_len a n)
boards_few false a n few = omega arith

pub most_boards : (s : SessionValue) → IsSession s → (1 ≤ s.configuration.boards) × (s.configuration.boards ≤ 3)
most_boards s is =
    let parts = and_parts (nat_le 1 s.configuration.boards) (nat_le s.configuration.boards 3) is.valid.configured.boards in
    (leb-true 1 s.configuration.boards parts.0, leb-true s.configuration.boards 3 parts.1)

pub few_there : (s : SessionValue) (i : ℕ) (d : Row) → IsSession s → i < length s.configuration.movement.rows → length (row_at s.records i) ≤ 3
few_there s i d is within =
    let row = get_or s.configuration.movement.rows i d in
    omega (
      arith,
      sym (length-map (row_at s.records i) board_of) ∙ ap length (boards_there s i d is within),
      boards_few (is_live row) ((row.set - 1) * s.configuration.boards + 1) s.configuration.boards (most_boards s is).1,
    )

-- the board at an index
board_in : (live : Bool) (a n j b : ℕ) → slice_get (cond live (range_with_len a n) []) j ≡ Some b → b ≡ a + j
board_in false a n j b e = absurd cc
board_in true a n j b e =
    let within : j < length (range_with_len a n) = slice_get_within (range_with_len a n) j b e in
    sym (get_or_from_slice_get (range_with_len a n) j b 0 e) ∙ get_or-range_with_len a n j 0 (omega (arith, within, length-range_with_len a n))

pub board_there : (s : SessionValue) (i : ℕ) (d : Row) (index : ℕ) (plain : PlainRecord) → IsSession s → i < length s.configuration.movement.rows → 1 ≤ index →
    slice_get (row_at s.records i) (index - 1) ≡ Some plain → plain.board ≡ ((get_or s.configuration.movement.rows i d).set - 1) * s.configuration.boards + index
board_there s i d index plain is within least there =
    let row = get_or s.configuration.movement.rows i d in
    let start = (row.set - 1) * s.configuration.boards in
    let found : slice_get (row_boards s.configuration.boards row) (index - 1) ≡ Some plain.board =
    ap (λ (boards : List ℕ). slice_get boards (index - 1)) (sym (boards_there s i d is within))
    ∙ slice_get-map board_of (row_at s.records i) (index - 1)
    ∙ ap (option_map board_of) there in
    let board = board_in (is_live row) (start + 1) s.configuration.boards (index - 1) plain.board found in
    omega (arith, board, least)

-- three records at most, one by one
three : (row : Row) (table : List PlainRecord) → length table ≤ 3 → filter_map (λ index. option_and_then (table_play_in row) (slice_get table (index - 1))) (1 ∷ 2 ∷ 3 ∷ []) ≡ filter_map (table_play_in row) table
three row [] few = refl
three row (a ∷ []) few = refl
three row (a ∷ (b ∷ [])) few = refl
three row (a ∷ (b ∷ (c ∷ []))) few = refl
three row (a ∷ (b ∷ (c ∷ (d ∷ rest)))) few = absurd (omega arith)

pub row_plays : (s : SessionValue) (i : ℕ) (d : Row) → IsSession s → i < length s.configuration.movement.rows →
    plays_at s (get_or s.configuration.movement.rows i d) ≡ filter_map (table_play_in (get_or s.configuration.movement.rows i d)) (row_at s.records i)
row_plays s i d is within =
    let row = get_or s.configuration.movement.rows i d in
    let table = row_at s.records i in
    ap (λ (h : ℕ → Option TablePlay). filter_map h (1 ∷ 2 ∷ 3 ∷ []))
    (λ k index. ap (option_and_then (table_play_in row)) (record_there s i d index is within) k)
    ∙ three row table (few_there s i d is within)

-- what is made of each row is made of each row with its records
zipped : {T : Type 0} (f : Row → List T) (g : Row × List PlainRecord → List T) (rows : List Row) (records : List (List PlainRecord)) → length rows ≡ length records →
    ((i : ℕ) (d : Row) → i < length rows → f (get_or rows i d) ≡ g (get_or rows i d, row_at records i)) → flat_map f rows ≡ flat_map g (zip rows records)
zipped f g [] records same each = refl
zipped f g (row ∷ rows) [] same each = absurd (omega (arith, same))
zipped {T} f g (row ∷ rows) (table ∷ records) same each =
    let here : f row ≡ g (row, table) = each zero row (omega arith) in
    let rest : flat_map f rows ≡ flat_map g (zip rows records) = zipped f g rows records (omega (arith, same)) (λ i d within. each (suc i) d (omega arith)) in
    ap (λ (first : List T). first ++ flat_map f rows) here ∙ ap (λ (later : List T). g (row, table) ++ later) rest

pub same_count : (s : SessionValue) → IsSession s → length s.configuration.movement.rows ≡ length s.records
same_count s is =
    sym (length-map s.configuration.movement.rows (row_boards s.configuration.boards))
    ∙ ap length (sym is.valid.of_boards)
    ∙ length-map s.records (map board_of)

pub plays_are : (s : SessionValue) → IsSession s → flat_map (plays_at s) s.configuration.movement.rows ≡ plays_of s
unfolding plays_of
plays_are s is =
    zipped (plays_at s) plays_in s.configuration.movement.rows s.records (same_count s is) (λ i d within. row_plays s i d is within)

-- the games among the plays are those of the session
game_by_play : (row : Row) (board : ℕ) (outcome : Outcome) (lead : Option ℕ) → option_and_then game_of (play_by row board outcome lead) ≡ game_by row board outcome
game_by_play row board Unfinished lead = refl
game_by_play row board PassedOut lead = refl
game_by_play row board (Played contract tricks) lead = refl
game_by_play row board Voided lead = refl
game_by_play row board (Adjusted ns ew) lead = refl
game_by_play row board (Assigned contract tricks) lead = refl

one_more : (play : Option TablePlay) (plays : List TablePlay) → filter_map game_of (cons_option play plays) ≡ cons_option (option_and_then game_of play) (filter_map game_of plays)
one_more None plays = refl
one_more (Some play) plays = refl

table_games : (row : Row) (table : List PlainRecord) → filter_map game_of (filter_map (table_play_in row) table) ≡ filter_map (game_in row) table
table_games row [] = refl
table_games row (plain ∷ table) =
    one_more (table_play_in row plain) (filter_map (table_play_in row) table)
    ∙ ap (λ (game : Option Game). cons_option game (filter_map game_of (filter_map (table_play_in row) table))) (game_by_play row plain.board (outcome_of plain) (slice_get plain.cards 0))
    ∙ ap (cons_option (game_in row plain)) (table_games row table)

all_games : (tables : List (Row × List PlainRecord)) → filter_map game_of (flat_map plays_in tables) ≡ flat_map games_in tables
all_games [] = refl
all_games (both ∷ tables) =
    filter_map-append game_of (plays_in both) (flat_map plays_in tables)
    ∙ ap (λ (first : List Game). first ++ filter_map game_of (flat_map plays_in tables)) (table_games both.0 both.1)
    ∙ ap (λ (later : List Game). games_in both ++ later) (all_games tables)

pub games_are : (s : SessionValue) → filter_map game_of (plays_of s) ≡ games_of s
unfolding plays_of
games_are s = all_games (zip s.configuration.movement.rows s.records)

-- of one that may be there
pub all_perhaps : (P : TablePlay → Type 0) (play : Option TablePlay) → IfSome play P → All P (option_to_list play)
all_perhaps P None is = All-nil P
all_perhaps P (Some play) is = All-cons P play [] is (All-nil P)
