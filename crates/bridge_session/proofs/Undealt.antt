-- A session after the deal of a board is taken back.
use Rattle.std.proofs.Common.{◌≡◌, ◌-◌, ◌*◌, ◌<◌, ◌≤◌, ℕ, Bool, true, false, not, cond, List, [], length, get_or, Option, Some, None, Result, Ok, Err, sym, ap, ◌∙◌, subst, inl, inr, length-set}
use Rattle.std.specs.Prelude.{map, is_none, nat_le, slice_get, slice_set, slice_index_or, unwrap_or}
use Rattle.std.specs.List.{list_any}
use Rattle.std.specs.Option.{option_map}
use Rattle.std.proofs.lemmas.Bool.{cases_eq, le-leb}
use Rattle.std.proofs.lemmas.List.{get_or_default}
use Rattle.std.proofs.lemmas.Option.{slice_get-map, slice_get-get_or, unwrap_or-slice_get}
use Rattle.bridge_config.specs.ConfigValue.{ConfigValue}
use Rattle.bridge_table.specs.declared.record.Record.{Record}
use Rattle.session_rules.specs.declared.refused.Refused.{Refused}
use Rattle.session_rules.specs.declared.refused.Refused.TheVariants.{Closed, NoSuchPlay, NotDealt, BoardBegun, RulingStands}
use Rattle.session_rules.specs.State.{SessionValue, deal_on, hands_on, row_at, is_closed}
use Rattle.session_rules.specs.DirectorStep.{is_begun_on, is_ruled_on, undeal_answer}
use Rattle.session_rules.specs.StateRange.{IsSession}
use Rattle.session_rules.proofs.PlainRecords.{other_deal}
use Rattle.session_rules.proofs.ValidUndeal.{none_at}
use Rattle.bridge_table.specs.Kept.{plain_of, IsTied, IsTiedIn}
use Rattle.bridge_table.proofs.Tables.{row_at_is}
use Rattle.bridge_session.specs.KeptSession.{state_of, StateASession, IsKeptSession}
use Rattle.bridge_session.proofs.Dealt.{without_calls}

-- a record is tied still when the deal of a board is taken back on which no call was made
tied_undealt : (deals : List (Option (List ℕ))) (board : ℕ) (kept : Record) → (kept.board - 1 ≡ board - 1 → kept.auction.calls ≡ []) → IsTiedIn deals kept → IsTiedIn (slice_set deals (board - 1) None) kept
tied_undealt deals board kept none tied =
    let after = slice_set deals (board - 1) None in
    elim (cases_eq (kept.board - 1) (board - 1)) [
      | inl same ↦
          record { tied = without_calls (hands_on deals kept.board) (hands_on after kept.board) kept tied.tied (none same); undealt = λ still. none same }
      | inr apart ↦
          let deal : deal_on after kept.board ≡ deal_on deals kept.board = other_deal deals board kept.board None apart in
          record {
            tied = subst (λ h. IsTied h kept) (ap (λ d. unwrap_or d []) (sym deal)) tied.tied;
            undealt = λ still. tied.undealt (sym deal ∙ still);
          }
    ]

pub kept_undealt : (configuration : ConfigValue) (round : ℕ) (deals : List (Option (List ℕ))) (tables : List (List Record)) (board : ℕ) → 1 ≤ board → list_any (list_any (is_begun_on board)) (map (map plain_of) tables) ≡ false → IsSession (state_of configuration round (slice_set deals (board - 1) None) tables) → IsKeptSession configuration round deals tables → IsKeptSession configuration round (slice_set deals (board - 1) None) tables
unfolding StateASession
kept_undealt configuration round deals tables board least none session kept = record {
  session = session;
  begun = kept.begun;
  boards = length-set deals (board - 1) None ∙ kept.boards;
  rows = kept.rows;
  few = kept.few;
  boards_are = kept.boards_are;
  tied = λ k d within i e inside.
      let table = get_or tables k d in
      let one = get_or table i e in
      let is : slice_get (row_at (map (map plain_of) tables) k) i ≡ Some (plain_of one) =
      ap (λ row. slice_get row i) (row_at_is tables k table (slice_get-get_or tables k d within))
      ∙ slice_get-map plain_of table i
      ∙ ap (option_map plain_of) (slice_get-get_or table i e inside) in
      tied_undealt deals board one (none_at (state_of configuration round deals tables) board k i (plain_of one) least kept.session.valid none is) (kept.tied k d within i e inside);
}

-- an index with a deal
pub was_dealt : (deals : List (Option (List ℕ))) (index board : ℕ) (deal : Option (List ℕ)) → index ≡ board - 1 → index < length deals → deal ≡ slice_index_or deals index deal → is_none deal ≡ false → is_none (deal_on deals board) ≡ false
was_dealt deals index board deal is within found dealt =
    ap is_none
    (ap (λ p. unwrap_or (slice_get deals p) None) (sym is)
    ∙ unwrap_or-slice_get deals index None
    ∙ get_or_default deals index None deal within
    ∙ sym found)
    ∙ dealt

-- the answer where the deal of a board may be taken back
pub undeal_accepted : (s : SessionValue) (board : ℕ) → is_closed s.configuration s.round ≡ false → board ≤ s.configuration.movement.shape.sets * s.configuration.boards → is_none (deal_on s.deals board) ≡ false → list_any (list_any (is_begun_on board)) s.records ≡ false → list_any (list_any (is_ruled_on board)) s.records ≡ false → undeal_answer s board ≡ Ok tt
undeal_accepted s board open_session within dealt unbegun unruled =
    let known : nat_le board (s.configuration.movement.shape.sets * s.configuration.boards) ≡ true = le-leb _ _ within in
    let last : Bool → Result (Unit {0}) Refused = λ b. cond b (Err RulingStands) (Ok tt) in
    let fourth : Bool → Result (Unit {0}) Refused = λ b. cond b (Err BoardBegun) (last (list_any (list_any (is_ruled_on board)) s.records)) in
    let third : Bool → Result (Unit {0}) Refused = λ b. cond b (Err NotDealt) (fourth (list_any (list_any (is_begun_on board)) s.records)) in
    let second : Bool → Result (Unit {0}) Refused = λ b. cond (not b) (Err NoSuchPlay) (third (is_none (deal_on s.deals board))) in
    let first : Bool → Result (Unit {0}) Refused = λ b. cond b (Err Closed) (second (nat_le board (s.configuration.movement.shape.sets * s.configuration.boards))) in
    ap first open_session ∙ ap second known ∙ ap third dealt ∙ ap fourth unbegun ∙ ap last unruled
