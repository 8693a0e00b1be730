use Rattle.std.proofs.Common.{◌≡◌, ◌<◌, ◌≤◌, ◌-◌, ℕ, true, List, length, Some, Result, sym, ap, ◌∙◌, subst, arith}
use Rattle.std.specs.Prelude.{All, map, slice_get, slice_set}
use Rattle.std.specs.Vec.{with_items}
use Rattle.bridge_auction.specs.Legal.{IsLegal}
use Rattle.bridge_table.specs.declared.record.Record.{Record}
use Rattle.session_rules.specs.declared.refused.Refused.{Refused}
use Rattle.session_rules.specs.Record.{PlainRecord}
use Rattle.bridge_movement.specs.Shape.{index_of_row}
use Rattle.session_rules.specs.State.{SessionValue, director_answer, changed_at, is_row_within, record_of}
use Rattle.session_rules.specs.DirectorStep.{if_allowed}
use Rattle.session_rules.specs.Back.{taken_back, back_answer, less_latest_in}
use Rattle.session_rules.specs.StateRange.{IsSession}
use Rattle.bridge_table.specs.Kept.{plain_of, board_kept, less_latest_kept, kept_back_answer, IsTiedIn}
use Rattle.bridge_session.specs.KeptSession.{state_of, IsKeptSession}
use Rattle.session_rules.proofs.Lists.{at_result, map_ok, map_err, set_there}
use Rattle.bridge_session.proofs.Acted.{kept_session, kept_with}
use Rattle.session_rules.proofs.Lists.{map-changed_at}
use Rattle.bridge_table.proofs.Tables.{changed_row, tied_row, lists_in, list_there, list_changed}
use Rattle.bridge_session.proofs.Acted.{record_found}
use Rattle.bridge_session.proofs.Ruled.{changed_at-map, All-changed_one, some_if}
use Rattle.bridge_session.proofs.LegalCalls.{legal_at}
use Rattle.bridge_table.proofs.LessLatest.{back_seen, less_seen, less_board, less_tied}
use Rattle.session_bytes.proofs.StateRanges.{less_latest_in_range}
use Rattle.session_rules.proofs.ValidBack.{back_valid}
use Rattle.bridge_session.proofs.session.Session.take_back.Goals as goal
use Rattle.bridge_session.proofs.session.Session.take_back.Goals.{After-self-1}

-- the table that was found, and what was left there
pub record IsChanged (c : After-self-1) : Type 0 where
  pub row : slice_get (lists_in c.self.inside.tables.items) c.in-Some.index ≡ Some c.as_mut_slice.result.now
  pub left : lists_in (slice_set c.self.inside.tables.items c.in-Some.index (with_items c.index_mut-records.result.now c.back_among.new.table)) ≡ slice_set (lists_in c.self.inside.tables.items) c.in-Some.index c.back_among.new.table
  pub index : c.from-at.result ≡ c.args.play.index - 1
  pub of_row : (is_row_within c.self.inside.config.movement.shape c.args.play.round c.args.play.table ≡ true) × (index_of_row c.self.inside.config.movement.shape c.args.play.round c.args.play.table ≡ c.in-Some.index)

is_changed : (c : After-self-1) → IsChanged c
is_changed c =
    let s = c.self.inside in
    let index = c.in-Some.index in
    let vector = c.index_mut-records.result.now in
    let within : index < length (lists_in s.tables.items) = omega (arith, c.in-Some.ensures.within, c.self.invariant.rows) in
    record {
      row = list_there s.tables.items index vector within c.index_mut-records.ensures.value ∙ ap Some (sym c.as_mut_slice.ensures.value);
      left = list_changed s.tables.items index vector c.back_among.new.table (omega arith);
      index = c.from-at.ensures ∙ ap (λ n. n - 1) c.number.ensures.number;
      of_row = some_if (is_row_within s.config.movement.shape c.args.play.round c.args.play.table) _ index (sym c.in-Some.ensures.row);
    }

-- the records of the table are tied
tied_there : (c : After-self-1) → All (IsTiedIn c.self.inside.deals.items) c.as_mut_slice.result.now
tied_there c =
    let s = c.self.inside in
    tied_row s.deals.items (lists_in s.tables.items) c.in-Some.index c.as_mut_slice.result.now c.self.invariant.tied (is_changed c).row

-- the record of the play
record_is : (c : After-self-1) → record_of (state_of c.self.inside.config c.self.inside.round c.self.inside.deals.items (lists_in c.self.inside.tables.items)) c.args.play ≡ slice_get (map plain_of c.as_mut_slice.result.now) c.from-at.result
record_is c =
    let s = c.self.inside in
    let changed = is_changed c in
    record_found s.config s.round s.deals.items (lists_in s.tables.items) c.args.play c.in-Some.index c.from-at.result c.as_mut_slice.result.now changed.of_row.0 changed.of_row.1 changed.index changed.row

-- the session before
abbrev before : After-self-1 → SessionValue
before c = state_of c.self.inside.config c.self.inside.round c.self.inside.deals.items (lists_in c.self.inside.tables.items)

-- it is one
session_before : (c : After-self-1) → IsSession (before c)
session_before c = kept_session c.self.inside.config c.self.inside.round c.self.inside.deals.items (lists_in c.self.inside.tables.items) c.self.invariant

-- the answer
answered : (c : After-self-1) → c.back_among.result ≡ back_answer (before c).round c.args.play.round (record_of (before c) c.args.play)
answered c =
    let s = c.self.inside in
    let table = c.as_mut_slice.result.now in
    c.back_among.ensures.answer
    ∙ ap (λ round. kept_back_answer s.round round (slice_get table c.from-at.result)) c.number-of_round.ensures.number
    ∙ back_seen table c.from-at.result s.round c.args.play.round
    ∙ ap (back_answer s.round c.args.play.round) (sym (record_is c))

-- the session with what was left in the table
left_is : (c : After-self-1) → c.back_among.new.table ≡ changed_at less_latest_kept c.as_mut_slice.result.now c.from-at.result →
    state_of c.self.inside.config c.self.inside.round c.self.inside.deals.items (slice_set (lists_in c.self.inside.tables.items) c.in-Some.index c.back_among.new.table) ≡ less_latest_in (before c) c.args.play
left_is c taken =
    let s = c.self.inside in
    let lists = lists_in s.tables.items in
    let changed = is_changed c in
    let after : List (List PlainRecord) → SessionValue = λ records. record { configuration = s.config; round = s.round; deals = s.deals.items; records = records } in
    let change : ℕ → List PlainRecord → List PlainRecord = λ index records. changed_at taken_back records index in
    let seen = ap (map plain_of) taken ∙ changed_at-map plain_of less_latest_kept taken_back c.as_mut_slice.result.now c.from-at.result less_seen in
    ap after (changed_row lists c.in-Some.index c.as_mut_slice.result.now c.back_among.new.table (change c.from-at.result) changed.row seen)
    ∙ ap (λ index. after (changed_at (change index) (map (map plain_of) lists) c.in-Some.index)) changed.index
    ∙ ap (λ index. after (changed_at (change (c.args.play.index - 1)) (map (map plain_of) lists) index)) (sym changed.of_row.1)

-- it is one
session_after : (c : After-self-1) → IsSession (state_of c.self.inside.config c.self.inside.round c.self.inside.deals.items (slice_set (lists_in c.self.inside.tables.items) c.in-Some.index c.back_among.new.table))
session_after c =
    let s = c.self.inside in
    let lists = lists_in s.tables.items in
    let ranges = c.in-Some.ensures.counted in
    at_result _ _ (IsSession (state_of s.config s.round s.deals.items (slice_set lists c.in-Some.index c.back_among.new.table)))
    c.back_among.result c.back_among.ensures.taken c.back_among.ensures.refused
    (λ ok taken.
    subst IsSession (sym (left_is c taken))
    (record {
      valid = back_valid (before c) c.args.play (session_before c).valid
          (ranges.0, ranges.1, subst (λ n. 1 ≤ n) c.number.ensures.number c.number.ensures.range.0) (sym (answered c) ∙ ok);
      ranges = less_latest_in_range (before c) c.args.play (session_before c).ranges;
    }))
    (λ same.
    subst (λ (tables : List (List Record)). IsSession (state_of s.config s.round s.deals.items tables))
    (sym (ap (slice_set lists c.in-Some.index) same ∙ set_there lists c.in-Some.index c.as_mut_slice.result.now (is_changed c).row)) (session_before c))

-- the calls of the play are legal
legal_there : (c : After-self-1) (kept : Record) → slice_get c.as_mut_slice.result.now c.from-at.result ≡ Some kept → IsLegal kept.auction.calls
legal_there c kept is =
    let s = c.self.inside in
    legal_at s.config s.round s.deals.items (lists_in s.tables.items) c.in-Some.index c.from-at.result c.as_mut_slice.result.now kept (session_before c).valid (is_changed c).row is

pub invariant_of-self : goal.invariant_of-self
invariant_of-self c =
    let s = c.self.inside in
    let deals = s.deals.items in
    let tied : All (IsTiedIn deals) c.back_among.new.table =
    at_result _ _ (All (IsTiedIn deals) c.back_among.new.table) c.back_among.result c.back_among.ensures.taken c.back_among.ensures.refused
    (λ ok taken.
    subst (All (IsTiedIn deals)) (sym taken)
    (All-changed_one (IsTiedIn deals) less_latest_kept c.as_mut_slice.result.now c.from-at.result (λ kept is. less_tied deals kept (legal_there c kept is)) (tied_there c)))
    (λ same. subst (All (IsTiedIn deals)) (sym same) (tied_there c)) in
    let boards : map board_kept c.back_among.new.table ≡ map board_kept c.as_mut_slice.result.now =
    at_result _ _ (map board_kept c.back_among.new.table ≡ map board_kept c.as_mut_slice.result.now) c.back_among.result c.back_among.ensures.taken c.back_among.ensures.refused
    (λ ok taken. ap (map board_kept) taken ∙ map-changed_at board_kept less_latest_kept c.as_mut_slice.result.now c.from-at.result less_board)
    (λ same. ap (map board_kept) same) in
    subst (IsKeptSession s.config s.round deals) (sym (is_changed c).left)
    (kept_with s.config s.round deals (lists_in s.tables.items) c.in-Some.index c.as_mut_slice.result.now c.back_among.new.table c.self.invariant (is_changed c).row boards tied (session_after c))

pub returns-clause-answer : goal.returns-clause-answer
returns-clause-answer c =
    let answer : SessionValue → Result (Unit {0}) Refused =
    λ t. if_allowed (director_answer t.configuration c.args.key.0) (back_answer t.round c.args.play.round (record_of t c.args.play)) in
    answered c
    ∙ ap (λ allowed. if_allowed allowed (back_answer (before c).round c.args.play.round (record_of (before c) c.args.play))) c.in_ok-check_director.ensures
    ∙ ap answer c.self.view_is

pub returns-clause-taken : goal.returns-clause-taken
returns-clause-taken c =
    let s = c.self.inside in
    map_ok _ _ c.back_among.result c.back_among.ensures.taken
    (λ ok taken.
    ap (state_of s.config s.round s.deals.items) (is_changed c).left
    ∙ left_is c taken
    ∙ ap (λ (t : SessionValue). less_latest_in t c.args.play) c.self.view_is)

pub returns-clause-refused : goal.returns-clause-refused
returns-clause-refused c =
    let s = c.self.inside in
    let lists = lists_in s.tables.items in
    map_err _ _ c.back_among.result c.back_among.ensures.refused
    (λ same.
    ap (state_of s.config s.round s.deals.items) ((is_changed c).left ∙ ap (slice_set lists c.in-Some.index) same ∙ set_there lists c.in-Some.index c.as_mut_slice.result.now (is_changed c).row)
    ∙ c.self.view_is)
