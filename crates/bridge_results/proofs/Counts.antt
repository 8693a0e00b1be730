-- How many plays and games a board has: at most one for each row.
use Rattle.std.proofs.Common.{◌≡◌, ◌*◌, ◌==◌, ◌≤◌, ℕ, Bool, true, false, cond, List, [], ◌∷◌, length, filter, map, Option, Some, None, refl, ap, ◌∙◌, arith, length-append}
use Rattle.std.specs.Prelude.{zip, flat_map, slice_get}
use Rattle.std.specs.List.{cons_option, filter_map}
use Rattle.std.specs.Option.{option_map}
use Rattle.std.proofs.lemmas.Nat.{mul-le}
use Rattle.std.proofs.lemmas.List.Elements.{filter-append}
use Rattle.bridge_movement.specs.declared.row.Row.{Row}
use Rattle.bridge_ranking.specs.declared.game.Game.{Game}
use Rattle.bridge_ranking.specs.declared.game.PlayResult.{PlayResult}
use Rattle.bridge_ranking.specs.declared.game.PlayResult.TheVariants.{Averages}
use Rattle.bridge_ranking.specs.Ranking.{is_on, result_of, games_of}
use Rattle.bridge_ranking.specs.KeptGames.{kept_game, kept_games}
use Rattle.bridge_ranking.proofs.Games.{few_on_board}
use Rattle.bridge_table.specs.declared.record.Record.{Record}
use Rattle.bridge_table.specs.Kept.{board_kept}
use Rattle.session_rules.specs.declared.average.Average.TheVariants.{Even}
use Rattle.session_rules.specs.declared.ruling.Ruling.TheVariants as ruling
use Rattle.session_rules.specs.Outcome.{outcome_of}
use Rattle.session_rules.specs.Record.{PlainRecord, bidding_of}
use Rattle.session_rules.specs.State.{SessionValue}
use Rattle.session_rules.specs.StateRange.{IsSession}
use Rattle.session_rules.specs.Valid.{board_of}
use Rattle.bridge_results.specs.declared.play.TablePlay.{TablePlay}
use Rattle.bridge_results.specs.Plays.{has_outcome, table_play_in, plays_in, plays_of, plays_on, is_of}
use Rattle.bridge_results.specs.Comparison.{game_of}
use Rattle.bridge_results.proofs.Plays.{games_are}

-- a record of the board, adjusted, so that it has a game whatever came of it
abbrev adjusted : PlainRecord → Record
adjusted plain = record {
  board = plain.board;
  auction = bidding_of plain;
  claims = 0;
  play = None;
  ruling = Some (ruling.Adjusted Even Even);
}

-- there are no more plays on a board than such records
perhaps_more : (same : Bool) (n : ℕ) (game : Game) (games : List Game) → n ≤ length games → n ≤ length (cond same (game ∷ games) games)
perhaps_more true n game games less = omega arith
perhaps_more false n game games less = less

both_more : (same : Bool) (play : TablePlay) (plays : List TablePlay) (game : Game) (games : List Game) → length plays ≤ length games → length (cond same (play ∷ plays) plays) ≤ length (cond same (game ∷ games) games)
both_more true play plays game games less = omega arith
both_more false play plays game games less = less

one_counts : (has : Bool) (b : ℕ) (play : TablePlay) (plays : List TablePlay) (game : Game) (games : List Game) → play.board ≡ game.board →
    length (filter (is_of b) plays) ≤ length (filter (is_on b) games) → length (filter (is_of b) (cons_option (cond has (Some play) None) plays)) ≤ length (filter (is_on b) (game ∷ games))
one_counts true b play plays game games same less =
    let both = both_more (game.board == b) play (filter (is_of b) plays) game (filter (is_on b) games) less in
    let here = ap (λ board. length (cond (board == b) (play ∷ filter (is_of b) plays) (filter (is_of b) plays))) same in
    omega (arith, both, here)
one_counts false b play plays game games same less = perhaps_more (game.board == b) (length (filter (is_of b) plays)) game (filter (is_on b) games) less

table_counts : (row : Row) (table : List PlainRecord) (b : ℕ) → length (filter (is_of b) (filter_map (table_play_in row) table)) ≤ length (filter (is_on b) (filter_map (kept_game row) (map adjusted table)))
table_counts row [] b = omega arith
table_counts row (plain ∷ table) b =
    one_counts (has_outcome (outcome_of plain)) b (record { row = row; board = plain.board; outcome = outcome_of plain; lead = slice_get plain.cards 0 }) (filter_map (table_play_in row) table)
    (record { board = plain.board; ns = row.ns; ew = row.ew; result = Averages Even Even }) (filter_map (kept_game row) (map adjusted table)) refl (table_counts row table b)

all_count : (rows : List Row) (records : List (List PlainRecord)) (b : ℕ) → length (filter (is_of b) (flat_map plays_in (zip rows records))) ≤ length (filter (is_on b) (kept_games rows (map (map adjusted) records)))
all_count [] records b = omega arith
all_count (row ∷ rows) [] b = omega arith
all_count (row ∷ rows) (table ∷ records) b =
    let plays = filter_map (table_play_in row) table in
    let later = flat_map plays_in (zip rows records) in
    let games = filter_map (kept_game row) (map adjusted table) in
    let others = kept_games rows (map (map adjusted) records) in
    omega (
      arith,
      table_counts row table b,
      all_count rows records b,
      ap length (filter-append (is_of b) plays later),
      length-append (filter (is_of b) plays) (filter (is_of b) later),
      ap length (filter-append (is_on b) games others),
      length-append (filter (is_on b) games) (filter (is_on b) others),
    )

-- of the same boards
table_boards : (table : List PlainRecord) → map board_kept (map adjusted table) ≡ map board_of table
table_boards [] = refl
table_boards (plain ∷ table) = ap (λ (boards : List ℕ). plain.board ∷ boards) (table_boards table)

all_boards : (records : List (List PlainRecord)) → map (map board_kept) (map (map adjusted) records) ≡ map (map board_of) records
all_boards [] = refl
all_boards (table ∷ records) =
    ap (λ (boards : List ℕ). boards ∷ map (map board_kept) (map (map adjusted) records)) (table_boards table)
    ∙ ap (λ (lists : List (List ℕ)). map board_of table ∷ lists) (all_boards records)

-- a movement has 144 rows at most
pub few_rows : (s : SessionValue) → IsSession s → length s.configuration.movement.rows ≤ 144
few_rows s is =
    let shape = s.configuration.movement.shape in
    let most : shape.rounds * shape.tables ≤ 12 * 12 = mul-le shape.rounds shape.tables 12 12 is.valid.configured.shape.rounds.1 is.valid.configured.shape.tables.1 in
    omega (arith, is.valid.configured.movement.complete.count, most)

pub few_plays_on : (s : SessionValue) (b : ℕ) → IsSession s → length (plays_on (plays_of s) b) ≤ 144
unfolding plays_of
few_plays_on s b is =
    let rows = s.configuration.movement.rows in
    omega (
      arith,
      all_count rows s.records b,
      few_on_board s.configuration.boards rows (map (map adjusted) s.records) b (all_boards s.records ∙ is.valid.of_boards),
      few_rows s is,
    )

-- a play has one game at most, of its board
game_counts : (b : ℕ) (play : TablePlay) (result : Option PlayResult) (plays : List TablePlay) (games : List Game) → length (filter (is_on b) games) ≤ length (filter (is_of b) plays) →
    length (filter (is_on b) (cons_option (option_map (λ (r : PlayResult). record { board = play.board; ns = play.row.ns; ew = play.row.ew; result = r }) result) games)) ≤ length (filter (is_of b) (play ∷ plays))
game_counts b play None plays games less = by_board (play.board == b)
  where
    by_board : (same : Bool) → length (filter (is_on b) games) ≤ length (cond same (play ∷ filter (is_of b) plays) (filter (is_of b) plays))
    by_board true = omega arith
    by_board false = less
game_counts b play (Some result) plays games less = by_board (play.board == b)
  where
    by_board : (same : Bool) → length (cond same ((record { board = play.board; ns = play.row.ns; ew = play.row.ew; result = result }) ∷ filter (is_on b) games) (filter (is_on b) games)) ≤ length (cond same (play ∷ filter (is_of b) plays) (filter (is_of b) plays))
    by_board true = omega arith
    by_board false = less

games_count : (plays : List TablePlay) (b : ℕ) → length (filter (is_on b) (filter_map game_of plays)) ≤ length (filter (is_of b) plays)
games_count [] b = omega arith
games_count (play ∷ plays) b = game_counts b play (result_of play.board play.outcome) plays (filter_map game_of plays) (games_count plays b)

pub few_games_on : (s : SessionValue) (b : ℕ) → IsSession s → length (filter (is_on b) (games_of s)) ≤ 144
few_games_on s b is =
    omega (
      arith,
      games_count (plays_of s) b,
      few_plays_on s b is,
      ap (λ (games : List Game). length (filter (is_on b) games)) (games_are s),
    )
