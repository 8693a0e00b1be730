-- A session stays valid where the deal of a board is taken back.
use Rattle.std.proofs.Common.{◌≡◌, ◌+◌, ◌-◌, ◌*◌, ◌==◌, ◌≤◌, ℕ, Bool, true, false, not, ◌&&◌, List, [], ◌∷◌, length, Option, Some, None, Ok, refl, sym, ap, ◌∙◌, subst, arith, inl, inr, length-set}
use Rattle.std.specs.Prelude.{slice_get, slice_set, nat_le, is_none, unwrap_or, IfSome}
use Rattle.std.specs.List.{list_any}
use Rattle.std.proofs.lemmas.Bool.{cases_eq, eq-eqb, eqb-true}
use Rattle.std.proofs.lemmas.List.Elements.{All-set}
use Rattle.bridge_auction.specs.declared.call.Call.{Call}
use Rattle.bridge_score.specs.declared.Scoring.{Scoring}
use Rattle.bridge_movement.specs.Row.{is_live}
use Rattle.bridge_play.specs.Play.{IsPlay}
use Rattle.session_rules.specs.declared.refused.Refused.TheVariants.{Closed, NoSuchPlay, NotDealt, BoardBegun}
use Rattle.session_rules.specs.Record.{PlainRecord, play_of}
use Rattle.session_rules.specs.State.{SessionValue, deal_on, row_at, is_closed, hands_on}
use Rattle.session_rules.specs.DirectorStep.{undeal_answer, is_begun_on}
use Rattle.session_rules.specs.Valid.{IsValidRecord, IsDealOrNone, IsValid}
use Rattle.session_rules.proofs.Lists.{not_refused}
use Rattle.session_rules.proofs.PlainRecords.{other_deal}
use Rattle.session_rules.proofs.PlainStep.{board_there, board_number}
use Rattle.session_rules.proofs.StaysValid.{row_found}
use Rattle.session_rules.proofs.ValidRound.{rest_ok, none_passes, no_play}

-- a play of the board in which no call was made
second_fails : (a b : Bool) → (a && not b) ≡ false → a ≡ true → b ≡ true
second_fails true true fails is = refl
second_fails true false fails is = absurd cc
second_fails false b fails is = absurd cc

no_element : (calls : List Call) → length calls ≡ 0 → calls ≡ []
no_element [] none = refl
no_element (call ∷ calls) none = absurd (omega arith)

no_calls : (board : ℕ) (x : PlainRecord) → is_begun_on board x ≡ false → x.board ≡ board → x.calls ≡ []
no_calls board x fails same =
    no_element x.calls (eqb-true (length x.calls) 0 (second_fails (x.board == board) (length x.calls == 0) fails (eq-eqb x.board board same)))

record_undealt : (scoring : Scoring) (deals : List (Option (List ℕ))) (now round board : ℕ) (x : PlainRecord) → (x.board - 1 ≡ board - 1 → x.calls ≡ []) → IsValidRecord scoring deals now round x → IsValidRecord scoring (slice_set deals (board - 1) None) now round x
record_undealt scoring deals now round board x none valid =
    let after = slice_set deals (board - 1) None in
    elim (cases_eq (x.board - 1) (board - 1)) [
      | inl same ↦
          let calls : x.calls ≡ [] = none same in
          record {
            calls = valid.calls;
            dealt = λ still. calls;
            unplayed = valid.unplayed;
            play = subst (λ o. IfSome o IsPlay) (sym (no_play (hands_on after x.board) x calls)) tt;
            ruled = valid.ruled;
            later = valid.later;
            earlier = valid.earlier;
          }
      | inr apart ↦
          let deal : deal_on after x.board ≡ deal_on deals x.board = other_deal deals board x.board None apart in
          record {
            calls = valid.calls;
            dealt = λ still. valid.dealt (sym deal ∙ still);
            unplayed = valid.unplayed;
            play = subst (λ h. IfSome (play_of h x) IsPlay) (ap (λ d. unwrap_or d []) (sym deal)) valid.play;
            ruled = valid.ruled;
            later = valid.later;
            earlier = valid.earlier;
          }
    ]

-- the boards of plays are counted from 1
board_from_one : (s : SessionValue) (row_index index : ℕ) (x : PlainRecord) → IsValid s → slice_get (row_at s.records row_index) index ≡ Some x → 1 ≤ x.board
board_from_one s row_index index x valid is =
    let n : ℕ = s.configuration.boards in
    let a = board_there n s.configuration.movement.rows s.records row_index index x valid.of_boards is in
    let number = board_number (is_live a.0) ((a.0.set - 1) * n + 1) n index x.board a.2 in
    omega (arith, number)

-- where no call was made on the board, its plays have none
pub none_at : (s : SessionValue) (board row_index index : ℕ) (x : PlainRecord) → 1 ≤ board → IsValid s → list_any (list_any (is_begun_on board)) s.records ≡ false → slice_get (row_at s.records row_index) index ≡ Some x → x.board - 1 ≡ board - 1 → x.calls ≡ []
none_at s board row_index index x least valid none is same =
    let own = row_found s.records row_index index x is in
    let row = none_passes (list_any (is_begun_on board)) s.records row_index own.0 none own.1 in
    let first = board_from_one s row_index index x valid is in
    no_calls board x (none_passes (is_begun_on board) own.0 index x row (ap (λ rs. slice_get rs index) (sym own.2) ∙ is)) (omega (arith, same, least, first))

pub undeal_valid : (s : SessionValue) (board : ℕ) → 1 ≤ board → IsValid s → undeal_answer s board ≡ Ok tt → IsValid (record s { deals = slice_set s.deals (board - 1) None })
undeal_valid s board least valid ok =
    let second = rest_ok (is_closed s.configuration s.round) Closed _ ok in
    let third = rest_ok (not (nat_le board (s.configuration.movement.shape.sets * s.configuration.boards))) NoSuchPlay _ second in
    let fourth = rest_ok (is_none (deal_on s.deals board)) NotDealt _ third in
    let none : list_any (list_any (is_begun_on board)) s.records ≡ false = not_refused (list_any (list_any (is_begun_on board)) s.records) BoardBegun _ fourth in
    record {
      configured = valid.configured;
      begun = valid.begun;
      ends = valid.ends;
      boards = length-set s.deals (board - 1) None ∙ valid.boards;
      deals = All-set IsDealOrNone s.deals (board - 1) None tt valid.deals;
      of_boards = valid.of_boards;
      plays = λ row_index index row plain is found.
          record_undealt s.configuration.scoring s.deals s.round row.round board plain
          (none_at s board row_index index plain least valid none found)
          (valid.plays row_index index row plain is found);
    }
