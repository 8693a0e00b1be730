-- The record of which a line tells.
use Rattle.std.proofs.Common.{◌≡◌, ℕ, ◌-◌, ◌*◌, Bool, true, false, cond, if◌then◌else◌, List, [], ◌∷◌, Option, Some, None, refl, sym, ap, ◌∙◌, subst, arith}
use Rattle.std.specs.Prelude.{All, IfSome, Contains, flat_map, option_and_then}
use Rattle.std.specs.List.{cons_option}
use Rattle.std.proofs.lemmas.Bool.{and_from, le-leb}
use Rattle.std.proofs.lemmas.List.Elements.{All-nil, All-cons, All-append, All-map, All-filter, All-contains_itself}
use Rattle.std.proofs.lemmas.List.Elements.{recursion_from_All}
use Rattle.std.specs.List.{AllByRecursion}
use Rattle.std.proofs.lemmas.List.Sorted.{All-permutation}
use Rattle.bridge_movement.specs.declared.row.Row.{Row}
use Rattle.session_rules.specs.declared.action.PlayId.{PlayId}
use Rattle.session_rules.specs.declared.outcome.Outcome.{Outcome}
use Rattle.session_rules.specs.Numbers.{IsRoundNumber, IsTableNumber, IsBoardIndex}
use Rattle.session_rules.specs.Outcome.{outcome_of}
use Rattle.session_rules.specs.Record.{PlainRecord}
use Rattle.session_rules.specs.State.{SessionValue, record_of}
use Rattle.session_rules.specs.StateRange.{IsSession}
use Rattle.bridge_ranking.specs.Ranking.{games_of}
use Rattle.bridge_results.specs.declared.play.TablePlay.{TablePlay}
use Rattle.bridge_results.specs.declared.traveller.BoardLine.{BoardLine}
use Rattle.bridge_results.specs.Plays.{has_outcome, lead_of, table_play_in, table_play_at, plays_at, plays_of, plays_on, is_of}
use Rattle.bridge_results.specs.Traveller.{board_line_of, rows_of, traveller}
use Rattle.bridge_results.specs.HtmlCourse.{id_by, is_id}
use Rattle.bridge_results.specs.HtmlRecord.{IsShownAsRecorded}
use Rattle.bridge_results.proofs.Known.{row_numbers, record_at}
use Rattle.bridge_results.proofs.Plays.{plays_are}
use Rattle.bridge_results.proofs.Order.{in_order_permutes}

-- the play at an index of a row
abbrev id_of : Row → ℕ → PlayId
id_of row index = record { round = row.round; table = row.table; index = index }

-- what a play is made of
record IsMadeOf (at : Row) (on : ℕ) (came : Outcome) (play : TablePlay) : Type 0 where
  row : play.row ≡ at
  board : play.board ≡ on
  outcome : play.outcome ≡ came

made_of : (row : Row) (board : ℕ) (outcome : Outcome) (lead : Option ℕ) (play : TablePlay) (has : Bool) → cond has (Some (record { row = row; board = board; outcome = outcome; lead = lead })) None ≡ Some play → IsMadeOf row board outcome play
made_of row board outcome lead play true e =
    let made : TablePlay = record { row = row; board = board; outcome = outcome; lead = lead } in
    let is : play ≡ made = cc in record {
      row = ap (λ (p : TablePlay). p.row) is;
      board = ap (λ (p : TablePlay). p.board) is;
      outcome = ap (λ (p : TablePlay). p.outcome) is;
    }
made_of row board outcome lead play false e = absurd cc

-- numbers of a play are so
ids : (id : PlayId) → IsRoundNumber id.round → IsTableNumber id.table → IsBoardIndex id.index → is_id id ≡ true
ids id round table index =
    and_from _ _ (and_from _ _ (le-leb 1 id.round round.0) (le-leb id.round 12 round.1))
    (and_from _ _ (and_from _ _ (le-leb 1 id.table table.0) (le-leb id.table 12 table.1)) (and_from _ _ (le-leb 1 id.index index.0) (le-leb id.index 3 index.1)))

-- the play of a record is shown as recorded
shown_of : (s : SessionValue) (row : Row) (index : ℕ) (plain : PlainRecord) (play : TablePlay) → IsSession s → Contains s.configuration.movement.rows row → IsBoardIndex index
    → record_of s (id_of row index) ≡ Some plain → table_play_in row plain ≡ Some play → IsShownAsRecorded s play
shown_of s row index plain play is there within found made =
    let known = record_at s row index plain is there within.0 found in
    let parts = made_of row plain.board (outcome_of plain) (lead_of plain.cards) play (has_outcome (outcome_of plain)) made in
    let numbers = row_numbers s row is there in
    let before = (row.set - 1) * s.configuration.boards in
    let place : play.board - (play.row.set - 1) * s.configuration.boards ≡ index
    = ap (λ (r : Row). play.board - (r.set - 1) * s.configuration.boards) parts.row
    ∙ ap (λ b. b - before) (parts.board ∙ known.board)
    ∙ omega arith in
    let id : id_by s.configuration play ≡ id_of row index
    = ap (λ i. record { round = play.row.round; table = play.row.table; index = i }) place
    ∙ ap (λ (r : Row). id_of r index) parts.row in
    record {
      row = subst (Contains s.configuration.movement.rows) (sym parts.row) there;
      plain = plain;
      found =
          ap (λ (i : PlayId). option_and_then (record_of s) (if is_id i then Some i else None)) id
          ∙ ap (λ b. option_and_then (record_of s) (if b then Some (id_of row index) else None)) (ids (id_of row index) numbers.0 numbers.1 within)
          ∙ found;
      board = sym parts.board;
      outcome = sym parts.outcome;
    }

-- and so is the play at an index of a row, if there is one
shown_in : (s : SessionValue) (row : Row) (index : ℕ) (found : Option PlainRecord) → IsSession s → Contains s.configuration.movement.rows row → IsBoardIndex index → record_of s (id_of row index) ≡ found
    → IfSome (option_and_then (table_play_in row) found) (IsShownAsRecorded s)
shown_in s row index None is there within at = tt
shown_in s row index (Some plain) is there within at = by_play (table_play_in row plain) refl
  where
    by_play : (made : Option TablePlay) → table_play_in row plain ≡ made → IfSome made (IsShownAsRecorded s)
    by_play None e = tt
    by_play (Some play) e = shown_of s row index plain play is there within at e

-- one that may be there, before others
perhaps_first : (P : TablePlay → Type 0) (first : Option TablePlay) (plays : List TablePlay) → IfSome first P → All P plays → All P (cons_option first plays)
perhaps_first P None plays is all = all
perhaps_first P (Some play) plays is all = All-cons P play plays is all

row_shown : (s : SessionValue) (row : Row) → IsSession s → Contains s.configuration.movement.rows row → All (IsShownAsRecorded s) (plays_at s row)
row_shown s row is there =
    let at : (index : ℕ) → IsBoardIndex index → IfSome (table_play_at s row index) (IsShownAsRecorded s)
    = λ index within. shown_in s row index (record_of s (id_of row index)) is there within refl in
    let P = IsShownAsRecorded s in
    perhaps_first P (table_play_at s row 1) _ (at 1 (omega arith, omega arith))
    (perhaps_first P (table_play_at s row 2) _ (at 2 (omega arith, omega arith))
    (perhaps_first P (table_play_at s row 3) [] (at 3 (omega arith, omega arith)) (All-nil P)))

-- those of all rows
rows_shown : (s : SessionValue) (rows : List Row) → IsSession s → AllByRecursion (Contains s.configuration.movement.rows) rows → All (IsShownAsRecorded s) (flat_map (plays_at s) rows)
rows_shown s [] is there = All-nil (IsShownAsRecorded s)
rows_shown s (row ∷ rows) is there =
    All-append (IsShownAsRecorded s) (plays_at s row) (flat_map (plays_at s) rows) (row_shown s row is there.0) (rows_shown s rows is there.1)

plays_shown : (s : SessionValue) → IsSession s → All (IsShownAsRecorded s) (plays_of s)
plays_shown s is =
    let rows = s.configuration.movement.rows in
    subst (All (IsShownAsRecorded s)) (plays_are s is) (rows_shown s rows is (recursion_from_All (Contains rows) rows (All-contains_itself rows)))

-- the lines of a traveller
pub lines_shown : (s : SessionValue) (board : ℕ) → IsSession s → All (λ (line : BoardLine). IsShownAsRecorded s line.play) (traveller s board)
lines_shown s board is =
    let line_of = board_line_of s.configuration.scoring (games_of s) in
    let P = λ (line : BoardLine). IsShownAsRecorded s line.play in
    All-permutation P (rows_of s board) (traveller s board) (in_order_permutes (rows_of s board))
    (All-map P line_of (plays_on (plays_of s) board) (All-filter (is_of board) (IsShownAsRecorded s) (plays_of s) (plays_shown s is)))
