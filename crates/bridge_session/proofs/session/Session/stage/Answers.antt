use Rattle.std.proofs.Common.{◌≡◌, ◌<◌, length, Some, sym, ap, ◌∙◌, subst, arith}
use Rattle.std.specs.Prelude.{All, map, slice_get}
use Rattle.session_rules.specs.Stage.{stage_among, stage_to}
use Rattle.session_rules.specs.State.{SessionValue}
use Rattle.session_rules.proofs.SameView.{stage_seated}
use Rattle.bridge_table.specs.Kept.{plain_of, IsTiedIn}
use Rattle.bridge_session.specs.KeptSession.{state_of}
use Rattle.bridge_table.proofs.Tables.{row_at_is, tied_row, lists_in, list_there}
use Rattle.bridge_session.proofs.session.Session.stage.Goals as goal
use Rattle.bridge_session.proofs.session.Session.stage.Goals.{After-as_slice-2}

-- the table where the player sits
row_there : (c : After-as_slice-2) → slice_get (lists_in c.self.inside.tables.items) c.in_ok-seating.seating.row ≡ Some c.as_slice.result.now
row_there c =
    let s = c.self.inside in
    let index = c.in_ok-seating.seating.row in
    let within : index < length (lists_in s.tables.items) = omega (arith, c.in_ok-seating.ensures.within, c.self.invariant.rows) in
    list_there s.tables.items index c.index-table.result.now within c.index-table.ensures ∙ ap Some (sym c.as_slice.ensures.value)

pub stage_among-requires : goal.stage_among-requires
stage_among-requires c =
    let s = c.self.inside in
    record {
      tied =
          subst (λ deals. All (IsTiedIn deals) c.as_slice.result.now) (sym c.as_slice-2.ensures.value)
          (tied_row s.deals.items (lists_in s.tables.items) c.in_ok-seating.seating.row c.as_slice.result.now c.self.invariant.tied (row_there c));
    }

pub returns : goal.returns
returns c =
    let s = c.self.inside in
    let key = c.args.key.0 in
    let seating = c.in_ok-seating.seating in
    let state = state_of s.config s.round s.deals.items (lists_in s.tables.items) in
    let within : seating.row < length (lists_in s.tables.items) = omega (arith, c.in_ok-seating.ensures.within, c.self.invariant.rows) in
    let row = list_there s.tables.items seating.row c.index-table.result.now within c.index-table.ensures ∙ ap Some (sym c.as_slice.ensures.value) in
    let records = map plain_of c.as_slice.result.now in
    let among : stage_to state key ≡ stage_among c.as_slice-2.result.now seating.seat records =
    ap (stage_seated state) (sym c.in_ok-seating.ensures.seating)
    ∙ ap (stage_among s.deals.items seating.seat) (row_at_is (lists_in s.tables.items) seating.row c.as_slice.result.now row)
    ∙ ap (λ deals. stage_among deals seating.seat records) (sym c.as_slice-2.ensures.value) in
    subst (λ (t : SessionValue). c.stage_among.result ≡ stage_to t key) c.self.view_is (c.stage_among.ensures ∙ sym among)
