-- How many plays a pair has: three in each round at most.
use Rattle.std.proofs.Common.{◌≡◌, ◌≢◌, ◌+◌, ◌*◌, ◌/◌, ◌==◌, ◌&&◌, ◌<◌, ◌≤◌, inl, inr, ℕ, zero, suc, Bool, true, false, cond, List, [], ◌∷◌, length, get_or, map, Option, Some, None, refl, sym, ap, ◌∙◌, arith, length-append, div-lt_iff_lt-mul, ◌-◌}
use Rattle.std.specs.Prelude.{All, AllPairs, zip, flat_map, not, is_some, slice_get}
use Rattle.std.specs.List.{cons_option, filter_map, range_with_len}
use Rattle.std.specs.Option.{option_map}
use Rattle.std.proofs.Math.Nat.{div-mul-le_self}
use Rattle.std.proofs.lemmas.Nat.{le-div}
use Rattle.std.proofs.lemmas.Bool.{eqb-true, and_parts}
use Rattle.std.proofs.lemmas.List.{length-map}
use Rattle.std.proofs.lemmas.List.Elements.{filter_map-append}
use Rattle.std.proofs.lemmas.List.FromFn.{length-range_with_len}
use Rattle.bridge_cards.specs.declared.seat.Side.{Side}
use Rattle.bridge_cards.specs.declared.seat.Side.TheVariants.{NorthSouth, EastWest}
use Rattle.bridge_movement.specs.declared.row.Row.{Row}
use Rattle.bridge_movement.specs.declared.shape.Shape.{Shape}
use Rattle.bridge_movement.specs.Row.{is_live, SitsIn, SeatPairTwice}
use Rattle.bridge_movement.specs.Shape.{IsShape}
use Rattle.bridge_movement.specs.Fair.{IsDue, IsMovement}
use Rattle.bridge_cards.specs.declared.scoring.Scoring.{Scoring}
use Rattle.bridge_ranking.specs.declared.game.Game.{Game}
use Rattle.session_rules.specs.Outcome.{outcome_of}
use Rattle.session_rules.specs.Record.{PlainRecord}
use Rattle.session_rules.specs.State.{SessionValue, row_boards}
use Rattle.session_rules.specs.StateRange.{IsSession}
use Rattle.session_rules.specs.Valid.{board_of}
use Rattle.bridge_results.specs.declared.play.TablePlay.{TablePlay}
use Rattle.bridge_results.specs.declared.card.CardLine.{CardLine}
use Rattle.bridge_results.specs.Plays.{has_outcome, table_play_in, plays_in, plays_of}
use Rattle.bridge_results.specs.ScoreCard.{side_at, card_line_of, score_card_line, card_lines}
use Rattle.bridge_results.proofs.Plays.{most_boards}

-- whether the pair plays in the row
abbrev plays_there : ℕ → Row → Bool
plays_there pair row = is_live row && is_some (side_at pair row)

-- how many of the rows it plays in
abbrev count_there : ℕ → List Row → ℕ
count_there pair [] = 0
count_there pair (row ∷ rows) = (cond (plays_there pair row) 1 0) + count_there pair rows

-- it sits there, and is a pair
sits_there : (pair : ℕ) (row : Row) → plays_there pair row ≡ true → (pair ≢ 0) × SitsIn row pair
sits_there pair row there =
    let parts = and_parts (is_live row) (is_some (side_at pair row)) there in
    let live = and_parts (not (row.ns == 0)) (not (row.ew == 0)) parts.0 in
    by_north (row.ns == pair) refl parts.1 live.0 live.1
  where
    not_zero : (n : ℕ) → not (n == 0) ≡ true → n ≢ 0
    not_zero n some none = cc (ap (λ k. not (k == 0)) none)

    by_east : (is : Bool) → (row.ew == pair) ≡ is → is_some (cond is (Some EastWest) None) ≡ true → not (row.ew == 0) ≡ true → (pair ≢ 0) × SitsIn row pair
    by_east true is some ew = (λ none. not_zero row.ew ew (eqb-true row.ew pair is ∙ none), inr (eqb-true row.ew pair is))
    by_east false is some ew = absurd cc

    by_north : (is : Bool) → (row.ns == pair) ≡ is → is_some (cond is (Some NorthSouth) (cond (row.ew == pair) (Some EastWest) None)) ≡ true → not (row.ns == 0) ≡ true → not (row.ew == 0) ≡ true → (pair ≢ 0) × SitsIn row pair
    by_north true is some ns ew = (λ none. not_zero row.ns ns (eqb-true row.ns pair is ∙ none), inl (eqb-true row.ns pair is))
    by_north false is some ns ew = by_east (row.ew == pair) refl some ew

-- rows by round, in no two of which of one round a pair stands
pub record AreRounds (rows : List Row) : Type 0 where
  pub order : AllPairs (λ (a : Row) (b : Row). a.round ≤ b.round) rows
  pub apart : AllPairs (λ (a : Row) (b : Row). ¬ SeatPairTwice a b) rows
  pub most : All (λ (row : Row). row.round ≤ 12) rows

rounds_later : (row : Row) (rows : List Row) → AreRounds (row ∷ rows) → AreRounds rows
rounds_later row rows are = record {
  order = λ i j d less within. are.order (suc i) (suc j) d (omega (arith, less)) (omega (arith, within));
  apart = λ i j d less within. are.apart (suc i) (suc j) d (omega (arith, less)) (omega (arith, within));
  most = λ k d within. are.most (suc k) d (omega (arith, within));
}

-- the pair plays in no more of them than there are rounds left
one_round : (pair : ℕ) (row : Row) (rows : List Row) (low : ℕ) (there : Bool) → plays_there pair row ≡ there → AreRounds (row ∷ rows) → All (λ (r : Row). plays_there pair r ≡ true → low ≤ r.round) (row ∷ rows) → low ≤ 13 →
    ((next : ℕ) → next ≤ 13 → All (λ (r : Row). plays_there pair r ≡ true → next ≤ r.round) rows → next + count_there pair rows ≤ 13) → low + (cond there 1 0 + count_there pair rows) ≤ 13
one_round pair row rows low false is are from few rest =
    omega (arith, rest low few (λ k d within there. from (suc k) d (omega (arith, within)) there))
one_round pair row rows low true is are from few rest =
    let here : low ≤ row.round = from zero row (omega arith) is in
    let most : row.round ≤ 12 = are.most zero row (omega arith) in
    let sits = sits_there pair row is in
    omega (
      arith,
      rest (low + 1) (omega (arith, here, most)) (λ k d within there.
          let other = get_or rows k d in
          let order : row.round ≤ other.round = are.order zero (suc k) d (omega arith) (omega (arith, within)) in
          let apart : row.round ≢ other.round = λ same. are.apart zero (suc k) d (omega arith) (omega (arith, within)) (same, (pair, sits.0, sits.1, (sits_there pair other there).1)) in
          omega (arith, here, order, apart)),
    )

rounds_left : (pair : ℕ) (rows : List Row) (low : ℕ) → AreRounds rows → low ≤ 13 → All (λ (r : Row). plays_there pair r ≡ true → low ≤ r.round) rows → low + count_there pair rows ≤ 13
rounds_left pair [] low are few from = omega (arith, few)
rounds_left pair (row ∷ rows) low are few from =
    one_round pair row rows low (plays_there pair row) refl are from few (λ next most later. rounds_left pair rows next (rounds_later row rows are) most later)

-- so are those of a movement
movement_rounds : (shape : Shape) (rows : List Row) → IsShape shape → IsMovement shape rows → AreRounds rows
movement_rounds shape rows limits movement =
    let some : 0 < shape.tables = omega (arith, limits.tables.0) in
    record {
      order = λ i j d less within.
          let first : IsDue shape i (get_or rows i d) = (movement.complete.order i (omega (arith, less, within))).1 d in
          let later : IsDue shape j (get_or rows j d) = (movement.complete.order j within).1 d in
          let before : i / shape.tables * shape.tables ≤ j = omega (arith, div-mul-le_self i shape.tables, less) in
          omega (arith, first.1, later.1, le-div (i / shape.tables) j shape.tables some before);
      apart = movement.fair.one_table;
      most = λ k d within.
          let due : IsDue shape k (get_or rows k d) = (movement.complete.order k within).1 d in
          let round : k / shape.tables < shape.rounds = (div-lt_iff_lt-mul some).1 due.0 in
          omega (arith, due.1, round, limits.rounds.1);
    }

-- a pair plays in 12 rows at most
pub few_rounds : (s : SessionValue) (pair : ℕ) → IsSession s → count_there pair s.configuration.movement.rows ≤ 12
few_rounds s pair is =
    let rows = s.configuration.movement.rows in
    let are = movement_rounds s.configuration.movement.shape rows is.valid.configured.shape is.valid.configured.movement in
    let left = rounds_left pair rows 1 are (omega arith) (λ k d within there.
    let due : IsDue s.configuration.movement.shape k (get_or rows k d) = (is.valid.configured.movement.complete.order k within).1 d in
    omega (arith, due.1)) in
    omega (arith, left)

-- a row has a line on the card for each of its records at most
one_line : (scoring : Scoring) (games : List Game) (pair : ℕ) (play : Option TablePlay) (plays : List TablePlay) (n : ℕ) → length (filter_map (score_card_line scoring games pair) plays) ≤ n →
    length (filter_map (score_card_line scoring games pair) (cons_option play plays)) ≤ n + 1
one_line scoring games pair None plays n less = omega (arith, less)
one_line scoring games pair (Some play) plays n less = by_side (score_card_line scoring games pair play)
  where
    by_side : (line : Option CardLine) → length (cons_option line (filter_map (score_card_line scoring games pair) plays)) ≤ n + 1
    by_side None = omega (arith, less)
    by_side (Some line) = omega (arith, less)

table_lines : (scoring : Scoring) (games : List Game) (pair : ℕ) (row : Row) (table : List PlainRecord) → length (filter_map (score_card_line scoring games pair) (filter_map (table_play_in row) table)) ≤ length table
table_lines scoring games pair row [] = omega arith
table_lines scoring games pair row (plain ∷ table) =
    omega (arith, one_line scoring games pair (table_play_in row plain) (filter_map (table_play_in row) table) (length table) (table_lines scoring games pair row table))

-- and none where the pair does not sit there
no_line : (scoring : Scoring) (games : List Game) (pair : ℕ) (row : Row) (table : List PlainRecord) → is_some (side_at pair row) ≡ false → length (filter_map (score_card_line scoring games pair) (filter_map (table_play_in row) table)) ≡ 0
no_line scoring games pair row [] none = refl
no_line scoring games pair row (plain ∷ table) none =
    by_outcome (has_outcome (outcome_of plain)) (no_line scoring games pair row table none)
  where
    play : TablePlay
    play = record { row = row; board = plain.board; outcome = outcome_of plain; lead = slice_get plain.cards 0 }

    by_side : (side : Option Side) → is_some side ≡ false → length (filter_map (score_card_line scoring games pair) (filter_map (table_play_in row) table)) ≡ 0 →
        length (cons_option (option_map (card_line_of scoring games play) side) (filter_map (score_card_line scoring games pair) (filter_map (table_play_in row) table))) ≡ 0
    by_side None absent rest = rest
    by_side (Some side) absent rest = absurd cc

    by_outcome : (has : Bool) → length (filter_map (score_card_line scoring games pair) (filter_map (table_play_in row) table)) ≡ 0 →
        length (filter_map (score_card_line scoring games pair) (cons_option (cond has (Some play) None) (filter_map (table_play_in row) table))) ≡ 0
    by_outcome true rest = by_side (side_at pair row) none rest
    by_outcome false rest = rest

-- a row that is not live has no record
row_lines : (scoring : Scoring) (games : List Game) (pair : ℕ) (row : Row) (table : List PlainRecord) (live here : Bool) (a n : ℕ) → n ≤ 3 → map board_of table ≡ cond live (range_with_len a n) [] →
    is_some (side_at pair row) ≡ here → length (filter_map (score_card_line scoring games pair) (filter_map (table_play_in row) table)) ≤ 3 * (cond (live && here) 1 0)
row_lines scoring games pair row table true true a n few boards is =
    omega (arith, table_lines scoring games pair row table, sym (length-map table board_of) ∙ ap length boards, length-range_with_len a n)
row_lines scoring games pair row table false here a n few boards is =
    omega (arith, table_lines scoring games pair row table, sym (length-map table board_of) ∙ ap length boards)
row_lines scoring games pair row table true false a n few boards is = omega (arith, no_line scoring games pair row table is)

all_lines : (scoring : Scoring) (games : List Game) (pair boards : ℕ) (rows : List Row) (records : List (List PlainRecord)) → boards ≤ 3 → map (map board_of) records ≡ map (row_boards boards) rows →
    length (filter_map (score_card_line scoring games pair) (flat_map plays_in (zip rows records))) ≤ 3 * count_there pair rows
all_lines scoring games pair boards [] records few same = omega arith
all_lines scoring games pair boards (row ∷ rows) [] few same = omega arith
all_lines scoring games pair boards (row ∷ rows) (table ∷ records) few same =
    let first : map board_of table ≡ row_boards boards row = cc in
    let others : map (map board_of) records ≡ map (row_boards boards) rows = cc in
    let plays = filter_map (table_play_in row) table in
    let later = flat_map plays_in (zip rows records) in
    let line = score_card_line scoring games pair in
    omega (
      arith,
      row_lines scoring games pair row table (is_live row) (is_some (side_at pair row)) ((row.set - 1) * boards + 1) boards few first refl,
      all_lines scoring games pair boards rows records few others,
      ap length (filter_map-append line plays later),
      length-append (filter_map line plays) (filter_map line later),
    )

pub few_lines : (s : SessionValue) (scoring : Scoring) (games : List Game) (pair : ℕ) → IsSession s → length (card_lines scoring games (plays_of s) pair) ≤ 36
unfolding plays_of
few_lines s scoring games pair is =
    omega (
      arith,
      all_lines scoring games pair s.configuration.boards s.configuration.movement.rows s.records (most_boards s is).1 is.valid.of_boards,
      few_rounds s pair is,
    )
