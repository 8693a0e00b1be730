-- The opening session.
use Rattle.std.proofs.Common.{◌≡◌, ◌+◌, ◌-◌, ◌*◌, ℕ, Bool, true, false, cond, List, [], ◌∷◌, length, Option, None, refl, sym, ap, ◌∙◌, subst, arith, ◌≤◌}
use Rattle.std.specs.Prelude.{All, map, replicate, slice_index_or}
use Rattle.std.specs.List.{range_with_len}
use Rattle.std.proofs.lemmas.List.{length-map, length-replicate}
use Rattle.std.proofs.lemmas.List.Elements.{All-map}
use Rattle.std.proofs.lemmas.List.FromFn.{length-range_with_len}
use Rattle.bridge_movement.specs.declared.row.Row.{Row}
use Rattle.bridge_movement.specs.Row.{is_live}
use Rattle.bridge_movement.specs.Shape.{row_count}
use Rattle.bridge_config.specs.ConfigValue.{ConfigValue}
use Rattle.bridge_config.specs.Limits.{IsConfiguration}
use Rattle.bridge_table.specs.declared.record.Record.{Record}
use Rattle.session_rules.specs.Record.{PlainRecord, empty_record}
use Rattle.session_rules.specs.State.{SessionValue, opening, opening_row, row_boards}
use Rattle.session_rules.specs.StateRange.{IsSession}
use Rattle.bridge_table.specs.Kept.{plain_of, board_kept, new_record, IsTiedIn}
use Rattle.bridge_session.specs.KeptSession.{state_of, StateASession, new_table, IsKeptSession}
use Rattle.session_bytes.proofs.SessionStays.{opening_session}

-- a new record is tied to whatever is dealt
new_tied : (deals : List (Option (List ℕ))) (board : ℕ) → IsTiedIn deals (new_record board)
new_tied deals board = record { tied = record { dealer = refl; play = refl }; undealt = λ none. refl }

new_row_tied : (deals : List (Option (List ℕ))) (boards : ℕ) (row : Row) → All (IsTiedIn deals) (new_table boards row)
new_row_tied deals boards row = All-map (IsTiedIn deals) new_record (row_boards boards row) (λ k d within. new_tied deals _)

-- a row plays each board of its set at most
few_boards : (live : Bool) (boards : List ℕ) → length boards ≤ 3 → length (cond live boards []) ≤ 3
few_boards true boards few = few
few_boards false boards few = omega arith

new_row_few : (boards : ℕ) (row : Row) → boards ≤ 3 → length (new_table boards row) ≤ 3
new_row_few boards row few =
    let count = few_boards (is_live row) (range_with_len ((row.set - 1) * boards + 1) boards) (omega (arith, length-range_with_len ((row.set - 1) * boards + 1) boards)) in
    omega (arith, count, length-map (row_boards boards row) new_record)

-- what is seen of the new records
new_seen : (boards : List ℕ) → map plain_of (map new_record boards) ≡ map empty_record boards
new_seen [] = refl
new_seen (board ∷ boards) = ap (λ rest. empty_record board ∷ rest) (new_seen boards)

rows_seen : (boards : ℕ) (rows : List Row) → map (map plain_of) (map (new_table boards) rows) ≡ map (opening_row boards) rows
rows_seen boards [] = refl
rows_seen boards (row ∷ rows) =
    ap (λ first. first ∷ map (map plain_of) (map (new_table boards) rows)) (new_seen (row_boards boards row))
    ∙ ap (λ rest. opening_row boards row ∷ rest) (rows_seen boards rows)

-- the boards of the new records
new_boards : (boards : List ℕ) → map board_kept (map new_record boards) ≡ boards
new_boards [] = refl
new_boards (board ∷ boards) = ap (λ rest. board ∷ rest) (new_boards boards)

pub rows_boards : (boards : ℕ) (rows : List Row) → map (map board_kept) (map (new_table boards) rows) ≡ map (row_boards boards) rows
rows_boards boards [] = refl
rows_boards boards (row ∷ rows) =
    ap (λ first. first ∷ map (map board_kept) (map (new_table boards) rows)) (new_boards (row_boards boards row))
    ∙ ap (λ rest. row_boards boards row ∷ rest) (rows_boards boards rows)

-- the parts of a new session
pub record IsNew (configuration : ConfigValue) (dealt : List (Option (List ℕ))) (lists : List (List Record)) : Type 0 where
  pub few : configuration.boards ≤ 3
  pub rows : length configuration.movement.rows ≡ row_count configuration.movement.shape
  pub deals : dealt ≡ replicate (configuration.movement.shape.sets * configuration.boards) None
  pub tables : lists ≡ map (new_table configuration.boards) configuration.movement.rows

pub new_is_opening : (configuration : ConfigValue) (deals : List (Option (List ℕ))) (tables : List (List Record)) → IsNew configuration deals tables → state_of configuration 1 deals tables ≡ opening configuration
new_is_opening configuration deals tables parts =
    let made : List (Option (List ℕ)) → List (List PlainRecord) → SessionValue = λ d r. record { configuration = configuration; round = 1; deals = d; records = r } in
    ap (λ d. made d (map (map plain_of) tables)) parts.deals
    ∙ ap (made (replicate (configuration.movement.shape.sets * configuration.boards) None))
    (ap (map (map plain_of)) parts.tables ∙ rows_seen configuration.boards configuration.movement.rows)

pub new_is_kept : (configuration : ConfigValue) (deals : List (Option (List ℕ))) (tables : List (List Record)) → IsConfiguration configuration → IsNew configuration deals tables → IsKeptSession configuration 1 deals tables
unfolding StateASession
new_is_kept configuration deals tables limits parts = record {
  session = subst IsSession (sym (new_is_opening configuration deals tables parts)) (opening_session configuration limits);
  begun = omega arith;
  boards = ap length parts.deals ∙ length-replicate (configuration.movement.shape.sets * configuration.boards) None;
  few = subst (All (λ (row : List Record). length row ≤ 3)) (sym parts.tables)
      (All-map (λ (row : List Record). length row ≤ 3) (new_table configuration.boards) configuration.movement.rows (λ k d within. new_row_few configuration.boards (slice_index_or configuration.movement.rows k d) parts.few));
  boards_are = ap (map (map board_kept)) parts.tables ∙ rows_boards configuration.boards configuration.movement.rows;
  rows = ap length parts.tables ∙ length-map configuration.movement.rows (new_table configuration.boards) ∙ parts.rows;
  tied = subst (All (All (IsTiedIn deals))) (sym parts.tables)
      (All-map (All (IsTiedIn deals)) (new_table configuration.boards) configuration.movement.rows (λ k d within. new_row_tied deals configuration.boards (slice_index_or configuration.movement.rows k d)));
}
