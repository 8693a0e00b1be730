-- The plays of a session: as many as its rows have, each of a board.
use Rattle.std.proofs.Common.{◌≡◌, ◌+◌, ◌-◌, ◌*◌, ◌<◌, ◌≤◌, ℕ, Bool, true, false, cond, List, [], ◌∷◌, length, map, Option, None, Some, sym, ap, subst, arith, length-append}
use Rattle.std.specs.Prelude.{All, flat_map, zip, nat_le}
use Rattle.std.specs.List.{cons_option, filter_map, range_with_len}
use Rattle.std.specs.Option.{option_map}
use Rattle.std.proofs.lemmas.Bool.{leb-true, and_parts}
use Rattle.std.proofs.lemmas.Nat.{mul-le}
use Rattle.std.proofs.lemmas.List.{length-map}
use Rattle.std.proofs.lemmas.List.Elements.{All-nil, All-cons, All-head, All-tail, All-append}
use Rattle.std.proofs.lemmas.List.FromFn.{length-range_with_len, get_or-range_with_len}
use Rattle.bridge_cards.specs.Board.{IsBoard}
use Rattle.bridge_movement.specs.declared.row.Row.{Row}
use Rattle.bridge_movement.specs.Row.{is_live}
use Rattle.bridge_movement.specs.Boards.{boards_before}
use Rattle.bridge_ranking.specs.declared.game.Game.{Game}
use Rattle.bridge_ranking.specs.declared.game.PlayResult.{PlayResult}
use Rattle.bridge_ranking.specs.Ranking.{result_of, game_in, games_in, games_of}
use Rattle.session_rules.specs.Outcome.{outcome_of}
use Rattle.session_rules.specs.Record.{PlainRecord}
use Rattle.session_rules.specs.State.{SessionValue, row_boards}
use Rattle.session_rules.specs.StateRange.{IsSession}
use Rattle.session_rules.specs.Valid.{board_of}
use Rattle.event_ranking.specs.Wide.{AreOfSection}

-- the play is of a board
abbrev OnBoard : Game → Type 0
OnBoard game = IsBoard game.board

-- the set is one of twelve
abbrev HasSet : Row → Type 0
HasSet row = (1 ≤ row.set) × (row.set ≤ 12)

-- the boards of a row
numbers_within : (a n : ℕ) → 1 ≤ a → a + n ≤ 37 → All IsBoard (range_with_len a n)
numbers_within a n least most = λ k d within.
    let inside : k < n = omega (arith, within, length-range_with_len a n) in
    subst IsBoard (sym (get_or-range_with_len a n k d inside)) (omega arith, omega arith)

live_within : (live : Bool) (a n : ℕ) → 1 ≤ a → a + n ≤ 37 → n ≤ 3 → All IsBoard (cond live (range_with_len a n) []) × (length (cond live (range_with_len a n) []) ≤ 3)
live_within true a n least most few = (numbers_within a n least most, omega (arith, length-range_with_len a n))
live_within false a n least most few = (All-nil IsBoard, omega arith)

row_within : (boards : ℕ) (row : Row) → boards ≤ 3 → HasSet row → All IsBoard (row_boards boards row) × (length (row_boards boards row) ≤ 3)
row_within boards row few set =
    let most : (row.set - 1) * boards ≤ 11 * 3 = mul-le (row.set - 1) boards 11 3 (omega (arith, set.1)) few in
    live_within (is_live row) (boards_before boards row.set + 1) boards (omega arith) (omega (arith, most)) few

-- the plays of a table
perhaps_within : (row : Row) (board : ℕ) (result : Option PlayResult) (games : List Game) → IsBoard board → All OnBoard games →
    All OnBoard (cons_option (option_map (λ (r : PlayResult). record { board = board; ns = row.ns; ew = row.ew; result = r }) result) games)
perhaps_within row board None games is all = all
perhaps_within row board (Some r) games is all = All-cons OnBoard (record { board = board; ns = row.ns; ew = row.ew; result = r }) games is all

perhaps_few : {X : Type 0} (one : Option X) (xs : List X) (n : ℕ) → length xs ≤ n → length (cons_option one xs) ≤ n + 1
perhaps_few None xs n few = omega arith
perhaps_few (Some x) xs n few = omega arith

table_within : (row : Row) (table : List PlainRecord) → All IsBoard (map board_of table) → All OnBoard (filter_map (game_in row) table) × (length (filter_map (game_in row) table) ≤ length table)
table_within row [] all = (All-nil OnBoard, omega arith)
table_within row (plain ∷ table) all =
    let rest = table_within row table (All-tail IsBoard plain.board (map board_of table) all) in (
      perhaps_within row plain.board (result_of plain.board (outcome_of plain)) (filter_map (game_in row) table) (All-head IsBoard plain.board (map board_of table) all) rest.0,
      omega (arith, perhaps_few (game_in row plain) (filter_map (game_in row) table) (length table) rest.1),
    )

-- of all tables
all_within : (boards : ℕ) (rows : List Row) (records : List (List PlainRecord)) → boards ≤ 3 → All HasSet rows → map (map board_of) records ≡ map (row_boards boards) rows →
    All OnBoard (flat_map games_in (zip rows records)) × (length (flat_map games_in (zip rows records)) ≤ 3 * length rows)
all_within boards [] records few sets same = (All-nil OnBoard, omega arith)
all_within boards (row ∷ rows) [] few sets same = (All-nil OnBoard, omega arith)
all_within boards (row ∷ rows) (table ∷ records) few sets same =
    let first : map board_of table ≡ row_boards boards row = cc in
    let others : map (map board_of) records ≡ map (row_boards boards) rows = cc in
    let row_is = row_within boards row few (All-head HasSet row rows sets) in
    let here = table_within row table (subst (All IsBoard) (sym first) row_is.0) in
    let rest = all_within boards rows records few (All-tail HasSet row rows sets) others in
    let games = filter_map (game_in row) table in
    let later = flat_map games_in (zip rows records) in (
      All-append OnBoard games later here.0 rest.0,
      omega (
        arith,
        here.1,
        rest.1,
        row_is.1,
        ap length first,
        length-map table board_of,
        length-append games later,
      ),
    )

pub of_section : (s : SessionValue) → IsSession s → AreOfSection (games_of s)
of_section s is =
    let shape = s.configuration.movement.shape in
    let rows = s.configuration.movement.rows in
    let configured = is.valid.configured in
    let few : s.configuration.boards ≤ 3 = leb-true s.configuration.boards 3 (and_parts (nat_le 1 s.configuration.boards) (nat_le s.configuration.boards 3) configured.boards).1 in
    let sets : All HasSet rows = λ k d within. let set = configured.movement.fair.sets k d within in (set.0, omega (arith, set.1, configured.shape.sets.1)) in
    let most : shape.rounds * shape.tables ≤ 12 * 12 = mul-le shape.rounds shape.tables 12 12 configured.shape.rounds.1 configured.shape.tables.1 in
    let both = all_within s.configuration.boards rows s.records few sets is.valid.of_boards in
    record {
      most = omega (arith, both.1, configured.movement.complete.count, most);
      boards = both.0;
    }
