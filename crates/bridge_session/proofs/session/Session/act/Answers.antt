use Rattle.std.proofs.Common.{◌≡◌, ◌<◌, ℕ, List, length, Option, Some, Result, sym, ap, ◌∙◌, subst, arith}
use Rattle.std.specs.Prelude.{All, OnOk, map, slice_get, slice_set}
use Rattle.std.specs.Vec.{with_items}
use Rattle.bridge_table.specs.declared.record.Record.{Record}
use Rattle.session_rules.specs.declared.refused.Refused.{Refused}
use Rattle.session_rules.specs.State.{SessionValue, deal_on, seating_of}
use Rattle.session_rules.specs.PlayerStep.{seen_by, player_answer, answer_among, acted}
use Rattle.session_rules.specs.Valid.{IsDeed}
use Rattle.session_rules.specs.StateRange.{IsSession}
use Rattle.bridge_table.specs.Kept.{plain_of, IsTiedIn}
use Rattle.bridge_session.specs.KeptSession.{state_of, IsKeptSession}
use Rattle.session_rules.proofs.Lists.{at_result, map_ok, map_err, set_there}
use Rattle.bridge_session.proofs.Acted.{kept_session, seated_answer, acted_state, kept_with}
use Rattle.bridge_table.proofs.Tables.{boards_same, row_at_is, tied_row, lists_in, list_there, list_changed}
use Rattle.session_bytes.proofs.StateRanges.{acted_in_range}
use Rattle.session_rules.proofs.ValidPlayer.{player_valid}
use Rattle.bridge_session.proofs.session.Session.act.Goals as goal
use Rattle.bridge_session.proofs.session.Session.act.Goals.{After-self-1}

pub act_among-requires : goal.act_among-requires
act_among-requires c =
    let s = c.self.inside in
    let index = c.in_ok-seating.seating.row in
    let vector = c.index_mut-table.result.now in
    let within : index < length (lists_in s.tables.items) = omega (arith, c.in_ok-seating.ensures.within, c.self.invariant.rows) in
    let there = list_there s.tables.items index vector within c.index_mut-table.ensures.value in
    let tied = tied_row s.deals.items (lists_in s.tables.items) index vector.items c.self.invariant.tied there in
    subst (λ deals. All (IsTiedIn deals) c.as_mut_slice.result.now) (sym c.as_slice-deals.ensures.value)
    (subst (All (IsTiedIn s.deals.items)) (sym c.as_mut_slice.ensures.value) tied)

-- what was found in the table, and what was left there
pub record IsChanged (c : After-self-1) : Type 0 where
  pub row : slice_get (lists_in c.self.inside.tables.items) c.in_ok-seating.seating.row ≡ Some c.as_mut_slice.result.now
  pub left : lists_in (slice_set c.self.inside.tables.items c.in_ok-seating.seating.row (with_items c.index_mut-table.result.now c.act_among.new.table)) ≡ slice_set (lists_in c.self.inside.tables.items) c.in_ok-seating.seating.row c.act_among.new.table

is_changed : (c : After-self-1) → IsChanged c
is_changed c =
    let s = c.self.inside in
    let index = c.in_ok-seating.seating.row in
    let vector = c.index_mut-table.result.now in
    let within : index < length (lists_in s.tables.items) = omega (arith, c.in_ok-seating.ensures.within, c.self.invariant.rows) in
    record {
      row = list_there s.tables.items index vector within c.index_mut-table.ensures.value ∙ ap Some (sym c.as_mut_slice.ensures.value);
      left = list_changed s.tables.items index vector c.act_among.new.table (omega arith);
    }

-- the session before
abbrev before : After-self-1 → SessionValue
before c = state_of c.self.inside.config c.self.inside.round c.self.inside.deals.items (lists_in c.self.inside.tables.items)

-- it is one
session_before : (c : After-self-1) → IsSession (before c)
session_before c = kept_session c.self.inside.config c.self.inside.round c.self.inside.deals.items (lists_in c.self.inside.tables.items) c.self.invariant

-- the answer to the player
answered : (c : After-self-1) → c.act_among.result ≡ player_answer (seen_by (before c) c.args.key.0 c.args.board) c.args.key.0 c.args.board c.args.at c.args.deed
answered c =
    let s = c.self.inside in
    let seating = c.in_ok-seating.seating in
    let answer : List Record → List (Option (List ℕ)) → Result (Unit {0}) Refused =
    λ table deals. answer_among (map plain_of table) (deal_on deals c.args.board) c.args.board seating.seat c.args.at c.args.deed in
    let among : c.act_among.result ≡ answer c.as_mut_slice.result.now s.deals.items =
    c.act_among.ensures.answer ∙ ap (answer c.as_mut_slice.result.now) c.as_slice-deals.ensures.value in
    let row = row_at_is (lists_in s.tables.items) seating.row c.as_mut_slice.result.now (is_changed c).row in
    among
    ∙ ap (λ records. answer_among records (deal_on s.deals.items c.args.board) c.args.board seating.seat c.args.at c.args.deed) (sym row)
    ∙ sym (seated_answer (before c) c.args.key.0 c.args.board c.args.at c.args.deed seating (sym c.in_ok-seating.ensures.seating) (sym c.if-not-is_of_set.ensures))

-- with what was left in the table it is one
session_after : (c : After-self-1) → IsSession (state_of c.self.inside.config c.self.inside.round c.self.inside.deals.items (slice_set (lists_in c.self.inside.tables.items) c.in_ok-seating.seating.row c.act_among.new.table))
session_after c =
    let s = c.self.inside in
    let lists = lists_in s.tables.items in
    let index = c.in_ok-seating.seating.row in
    at_result _ _ (IsSession (state_of s.config s.round s.deals.items (slice_set lists index c.act_among.new.table)))
    c.act_among.result c.act_among.ensures.taken c.act_among.ensures.refused
    (λ ok taken.
    subst IsSession (sym (acted_state s.config s.round s.deals.items lists c.args.key.0 c.args.deed c.in_ok-seating.seating c.as_mut_slice.result.now c.act_among.new.table (sym c.in_ok-seating.ensures.seating) (is_changed c).row taken))
    (record {
      valid = player_valid (before c) c.args.key.0 c.args.board c.args.at c.args.deed (session_before c).valid
          (subst (λ r. OnOk r (IsDeed c.args.deed)) ok c.act_among.ensures.known) (sym (answered c) ∙ ok);
      ranges = acted_in_range (before c) c.args.deed (seating_of c.self.inside.config c.self.inside.round c.args.key.0) (session_before c).ranges;
    }))
    (λ same.
    subst (λ (tables : List (List Record)). IsSession (state_of s.config s.round s.deals.items tables))
    (sym (ap (slice_set lists index) same ∙ set_there lists index c.as_mut_slice.result.now (is_changed c).row)) (session_before c))

pub invariant_of-self : goal.invariant_of-self
invariant_of-self c =
    let s = c.self.inside in
    let tied = subst (λ deals. All (IsTiedIn deals) c.act_among.new.table) c.as_slice-deals.ensures.value c.act_among.ensures.tied in
    subst (IsKeptSession s.config s.round s.deals.items) (sym (is_changed c).left)
    (kept_with s.config s.round s.deals.items (lists_in s.tables.items) c.in_ok-seating.seating.row c.as_mut_slice.result.now c.act_among.new.table c.self.invariant (is_changed c).row
    (boards_same c.in_ok-seating.seating.seat c.args.deed c.act_among.result c.as_mut_slice.result.now c.act_among.new.table c.act_among.ensures.taken c.act_among.ensures.refused) tied (session_after c))

pub returns-clause-answer : goal.returns-clause-answer
returns-clause-answer c = answered c ∙ ap (λ (s : SessionValue). player_answer (seen_by s c.args.key.0 c.args.board) c.args.key.0 c.args.board c.args.at c.args.deed) c.self.view_is

pub returns-clause-taken : goal.returns-clause-taken
returns-clause-taken c =
    let s = c.self.inside in
    let seating = c.in_ok-seating.seating in
    let lists = lists_in s.tables.items in
    map_ok _ _ c.act_among.result c.act_among.ensures.taken
    (λ ok taken.
    ap (state_of s.config s.round s.deals.items) (is_changed c).left
    ∙ acted_state s.config s.round s.deals.items lists c.args.key.0 c.args.deed seating c.as_mut_slice.result.now c.act_among.new.table (sym c.in_ok-seating.ensures.seating) (is_changed c).row taken
    ∙ ap (λ (s : SessionValue). acted s c.args.key.0 c.args.deed) c.self.view_is)

pub returns-clause-refused : goal.returns-clause-refused
returns-clause-refused c =
    let s = c.self.inside in
    let index = c.in_ok-seating.seating.row in
    let lists = lists_in s.tables.items in
    map_err _ _ c.act_among.result c.act_among.ensures.refused
    (λ same.
    ap (state_of s.config s.round s.deals.items) ((is_changed c).left ∙ ap (slice_set lists index) same ∙ set_there lists index c.as_mut_slice.result.now (is_changed c).row)
    ∙ c.self.view_is)
