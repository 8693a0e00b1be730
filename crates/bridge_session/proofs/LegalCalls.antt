-- The calls of a record that a session keeps are legal.
use Rattle.std.proofs.Common.{◌≡◌, ℕ, List, Option, Some, ap, ◌∙◌}
use Rattle.std.specs.Prelude.{map, slice_get}
use Rattle.std.specs.Option.{option_map}
use Rattle.std.proofs.lemmas.Option.{slice_get-map}
use Rattle.bridge_auction.specs.Legal.{IsLegal}
use Rattle.bridge_config.specs.ConfigValue.{ConfigValue}
use Rattle.bridge_table.specs.declared.record.Record.{Record}
use Rattle.bridge_table.specs.Kept.{plain_of}
use Rattle.bridge_table.proofs.Tables.{row_at_is}
use Rattle.session_rules.specs.State.{row_at}
use Rattle.session_rules.specs.Valid.{IsValid}
use Rattle.session_rules.proofs.PlainStep.{board_there}
use Rattle.bridge_session.specs.KeptSession.{state_of}

pub legal_at : (configuration : ConfigValue) (round : ℕ) (deals : List (Option (List ℕ))) (tables : List (List Record)) (row_index index : ℕ) (table : List Record) (kept : Record) → IsValid (state_of configuration round deals tables) → slice_get tables row_index ≡ Some table → slice_get table index ≡ Some kept → IsLegal kept.auction.calls
legal_at configuration round deals tables row_index index table kept valid row is =
    let records = map (map plain_of) tables in
    let found : slice_get (row_at records row_index) index ≡ Some (plain_of kept) =
    ap (λ rs. slice_get rs index) (row_at_is tables row_index table row) ∙ slice_get-map plain_of table index ∙ ap (option_map plain_of) is in
    let there = board_there configuration.boards configuration.movement.rows records row_index index (plain_of kept) valid.of_boards found in
    (valid.plays row_index index there.0 (plain_of kept) there.1 found).calls
