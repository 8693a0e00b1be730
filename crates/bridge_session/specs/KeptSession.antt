-- What contracts see of the fields of a session.
use Rattle.std.specs.Prelude.{◌≡◌, ℕ, ◌*◌, ◌≤◌, map, List, length, All}
use Rattle.bridge_table.specs.declared.record.Record.{Record}
use Rattle.bridge_movement.specs.declared.row.Row.{Row}
use Rattle.bridge_movement.specs.Shape.{row_count}
use Rattle.bridge_config.specs.ConfigValue.{ConfigValue}
use Rattle.session_rules.specs.State.{SessionValue, Deals, row_boards}
use Rattle.session_rules.specs.StateRange.{IsSession}
use Rattle.bridge_table.specs.Kept.{plain_of, board_kept, IsTiedIn, new_record}

-- what contracts see of a session
abbrev pub state_of : ConfigValue → ℕ → Deals → List (List Record) → SessionValue
state_of configuration round deals tables = record {
  configuration = configuration;
  round = round;
  deals = deals;
  records = map (map plain_of) tables;
}

-- what the fields of a session state is a session
unfoldable pub StateASession : ConfigValue → ℕ → Deals → List (List Record) → Type 0
StateASession configuration round deals tables = IsSession (state_of configuration round deals tables)

-- The fields of a session: they state one, there are as many as the configuration says, and the records are tied to
-- the deals and of the boards of their rows.
pub record IsKeptSession (configuration : ConfigValue) (round : ℕ) (deals : Deals) (tables : List (List Record)) : Type 0 where
  pub session : StateASession configuration round deals tables
  pub begun : 1 ≤ round
  pub boards : length deals ≡ configuration.movement.shape.sets * configuration.boards
  pub rows : length tables ≡ row_count configuration.movement.shape
  pub tied : All (All (IsTiedIn deals)) tables
  pub few : All (λ table. length table ≤ 3) tables
  pub boards_are : map (map board_kept) tables ≡ map (row_boards configuration.boards) configuration.movement.rows

-- the records of a row at the beginning: one for each board of its set where the row is live
abbrev pub new_table : ℕ → Row → List Record
new_table boards row = map new_record (row_boards boards row)
