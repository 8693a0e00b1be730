-- A session after a change in one table.
use Rattle.std.proofs.Common.{◌≡◌, ◌≤◌, ℕ, Bool, true, cond, List, length, Option, Some, None, Result, Ok, sym, ap, ◌∙◌, length-set, arith, ◌-◌}
use Rattle.std.specs.Prelude.{All, map, slice_get, slice_set}
use Rattle.std.specs.Option.{option_map}
use Rattle.std.proofs.lemmas.List.{map-set, length-map}
use Rattle.std.proofs.lemmas.List.Elements.{All-set}
use Rattle.std.proofs.lemmas.Option.{slice_get-map}
use Rattle.bridge_config.specs.ConfigValue.{ConfigValue}
use Rattle.session_rules.specs.declared.deed.Deed.{Deed}
use Rattle.bridge_table.specs.declared.record.Record.{Record}
use Rattle.session_rules.specs.declared.refused.Refused.{Refused}
use Rattle.session_rules.specs.declared.refused.Refused.TheVariants.{NotCurrent}
use Rattle.session_rules.specs.declared.seating.Seating.{Seating}
use Rattle.session_rules.specs.Answer.{Answer, ◌>>◌, require}
use Rattle.session_rules.specs.Record.{PlainRecord}
use Rattle.bridge_movement.specs.Shape.{index_of_row}
use Rattle.session_rules.specs.State.{SessionValue, deal_on, row_at, seating_of, is_of_set, is_row_within, record_of}
use Rattle.session_rules.specs.PlayerStep.{seen_by, seen_deal, seen_records, answer_among, player_answer, acted_among, acted_at, acted}
use Rattle.session_rules.proofs.PlayerAnswer.{answer_seated}
use Rattle.session_rules.specs.StateRange.{IsSession}
use Rattle.bridge_table.specs.Kept.{plain_of, board_kept, IsTiedIn}
use Rattle.bridge_session.specs.KeptSession.{state_of, StateASession, IsKeptSession}
use Rattle.session_rules.proofs.Lists.{set_there}
use Rattle.session_rules.specs.declared.action.PlayId.{PlayId}
use Rattle.bridge_table.proofs.Tables.{row_at_is, changed_row, few_row}

-- the answer to a player who sits there
answer_by : SessionValue → ℕ → ℕ → Deed → Result Seating Refused → Result (Unit {0}) Refused
answer_by s board at deed seating =
    answer_seated (record { configuration = s.configuration; round = s.round; deal = seen_deal s board seating; records = seen_records s seating }) board at deed seating

pub seated_answer : (s : SessionValue) (key board at : ℕ) (deed : Deed) (seating : Seating) → seating_of s.configuration s.round key ≡ Ok seating → is_of_set s.configuration seating.set board ≡ true → player_answer (seen_by s key board) key board at deed ≡ answer_among (row_at s.records seating.row) (deal_on s.deals board) board seating.seat at deed
unfolding answer_by
seated_answer s key board at deed seating sits of_set =
    let among : Bool → Answer = λ b.
    require b NotCurrent >> answer_among (row_at s.records seating.row) (cond b (deal_on s.deals board) None) board seating.seat at deed in
    ap (answer_by s board at deed) sits ∙ ap among of_set

-- the session after what a player did
pub acted_state : (configuration : ConfigValue) (round : ℕ) (deals : List (Option (List ℕ))) (tables : List (List Record)) (key : ℕ) (deed : Deed) (seating : Seating) (table after : List Record) → seating_of configuration round key ≡ Ok seating → slice_get tables seating.row ≡ Some table → map plain_of after ≡ acted_among seating.seat deed (map plain_of table) → state_of configuration round deals (slice_set tables seating.row after) ≡ acted (state_of configuration round deals tables) key deed
acted_state configuration round deals tables key deed seating table after sits is left =
    let made : List (List PlainRecord) → SessionValue = λ records. record { configuration = configuration; round = round; deals = deals; records = records } in
    ap made (changed_row tables seating.row table after (acted_among seating.seat deed) is left)
    ∙ ap (acted_at (state_of configuration round deals tables) deed) (sym sits)

-- what they state is a session
pub kept_session : (configuration : ConfigValue) (round : ℕ) (deals : List (Option (List ℕ))) (tables : List (List Record)) → IsKeptSession configuration round deals tables → IsSession (state_of configuration round deals tables)
unfolding StateASession
kept_session configuration round deals tables kept = kept.session

-- the parts are kept
pub kept_with : (configuration : ConfigValue) (round : ℕ) (deals : List (Option (List ℕ))) (tables : List (List Record)) (index : ℕ) (table after : List Record) → IsKeptSession configuration round deals tables → slice_get tables index ≡ Some table → map board_kept after ≡ map board_kept table → All (IsTiedIn deals) after → IsSession (state_of configuration round deals (slice_set tables index after)) → IsKeptSession configuration round deals (slice_set tables index after)
unfolding StateASession
kept_with configuration round deals tables index table after kept is same tied session = record {
  session = session;
  begun = kept.begun;
  boards = kept.boards;
  rows = length-set tables index after ∙ kept.rows;
  tied = All-set (All (IsTiedIn deals)) tables index after tied kept.tied;
  few =
      let were : length table ≤ 3 = few_row tables index table kept.few is in
      let long : length after ≡ length table = sym (length-map after board_kept) ∙ ap length same ∙ length-map table board_kept in
      All-set (λ (row : List Record). length row ≤ 3) tables index after (omega arith) kept.few;
  boards_are = map-set (map board_kept) tables index after
      ∙ set_there (map (map board_kept) tables) index (map board_kept after)
      (slice_get-map (map board_kept) tables index ∙ ap (option_map (map board_kept)) is ∙ ap Some (sym same))
      ∙ kept.boards_are;
}

-- the record of a play is the one at its index in its table
pub record_found : (configuration : ConfigValue) (round : ℕ) (deals : List (Option (List ℕ))) (tables : List (List Record)) (play : PlayId) (row_index index : ℕ) (table : List Record) → is_row_within configuration.movement.shape play.round play.table ≡ true → index_of_row configuration.movement.shape play.round play.table ≡ row_index → index ≡ play.index - 1 → slice_get tables row_index ≡ Some table → record_of (state_of configuration round deals tables) play ≡ slice_get (map plain_of table) index
record_found configuration round deals tables play row_index index table within there is row =
    let records = map (map plain_of) tables in
    let at : ℕ → ℕ → Option PlainRecord = λ row_index index. slice_get (row_at records row_index) index in
    ap (λ b. cond b (at (index_of_row configuration.movement.shape play.round play.table) (play.index - 1)) None) within
    ∙ ap (λ row_index. at row_index (play.index - 1)) there
    ∙ ap (at row_index) (sym is)
    ∙ ap (λ row. slice_get row index) (row_at_is tables row_index table row)
