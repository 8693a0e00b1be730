use Rattle.std.proofs.Common.{◌≡◌, ◌<◌, length, Some, Err, sym, ap, ◌∙◌, subst, arith}
use Rattle.std.specs.Prelude.{All, map, slice_get, IfSome, MatchResult}
use Rattle.session_rules.specs.State.{SessionValue}
use Rattle.session_rules.specs.See.{shown_among, shown_to}
use Rattle.session_rules.proofs.Shown.{shown_seated}
use Rattle.session_rules.specs.Views.{IsViewOf, IsViewTo}
use Rattle.bridge_table.specs.Kept.{plain_of, IsTiedIn}
use Rattle.bridge_session.specs.KeptSession.{state_of}
use Rattle.session_rules.proofs.Lists.{match_map}
use Rattle.bridge_table.proofs.Tables.{row_at_is, tied_row, few_row, lists_in, list_there}
use Rattle.bridge_session.proofs.session.Session.see.Goals as goal
use Rattle.bridge_session.proofs.session.Session.see.Goals.{After-as_slice-2}

-- the table where the player sits
row_there : (c : After-as_slice-2) → slice_get (lists_in c.self.inside.tables.items) c.in_ok-seating.seating.row ≡ Some c.as_slice.result.now
row_there c =
    let s = c.self.inside in
    let index = c.in_ok-seating.seating.row in
    let within : index < length (lists_in s.tables.items) = omega (arith, c.in_ok-seating.ensures.within, c.self.invariant.rows) in
    list_there s.tables.items index c.index-table.result.now within c.index-table.ensures ∙ ap Some (sym c.as_slice.ensures.value)

pub view_among-requires-clause-tied : goal.view_among-requires-clause-tied
view_among-requires-clause-tied c =
    let s = c.self.inside in
    subst (λ deals. All (IsTiedIn deals) c.as_slice.result.now) (sym c.as_slice-2.ensures.value)
    (tied_row s.deals.items (lists_in s.tables.items) c.in_ok-seating.seating.row c.as_slice.result.now c.self.invariant.tied (row_there c))

pub view_among-requires-clause-few : goal.view_among-requires-clause-few
view_among-requires-clause-few c =
    few_row (lists_in c.self.inside.tables.items) c.in_ok-seating.seating.row c.as_slice.result.now c.self.invariant.few (row_there c)

pub returns : goal.returns
returns c =
    let s = c.self.inside in
    let key = c.args.key.0 in
    let seating = c.in_ok-seating.seating in
    let state = state_of s.config s.round s.deals.items (lists_in s.tables.items) in
    let within : seating.row < length (lists_in s.tables.items) = omega (arith, c.in_ok-seating.ensures.within, c.self.invariant.rows) in
    let row = list_there s.tables.items seating.row c.index-table.result.now within c.index-table.ensures ∙ ap Some (sym c.as_slice.ensures.value) in
    let records = map plain_of c.as_slice.result.now in
    let sits = sym c.in_ok-seating.ensures.seating in
    let round : c.unwrap-round.result ≡ s.round = subst (λ o. IfSome o (λ n. n ≡ s.round)) c.unwrap-round.ensures c.new.ensures.value in
    let number : c.unwrap-number.result ≡ seating.table = subst (λ o. IfSome o (λ n. n ≡ seating.table)) c.unwrap-number.ensures c.new-2.ensures.value in
    let among : shown_to state key ≡ shown_among c.as_slice-2.result.now seating.seat records =
    ap (shown_seated state) sits
    ∙ ap (shown_among s.deals.items seating.seat) (row_at_is (lists_in s.tables.items) seating.row c.as_slice.result.now row)
    ∙ ap (λ deals. shown_among deals seating.seat records) (sym c.as_slice-2.ensures.value) in
    subst (λ (t : SessionValue). MatchResult c.view_among.result (IsViewTo t key) (λ refused. shown_to t key ≡ Err refused)) c.self.view_is
    (match_map _ (IsViewTo state key) _ (λ refused. shown_to state key ≡ Err refused) c.view_among.result c.view_among.ensures
    (λ view seen. record {
      seating = seating;
      sits = sits;
      shown = seen.shown;
      allowed = among ∙ seen.allowed;
      fields =
          subst (λ r. IsViewOf r seating.table seating.seat seen.shown view) round
          (subst (λ n. IsViewOf c.unwrap-round.result n seating.seat seen.shown view) number seen.fields);
    })
    (λ refused none. among ∙ none))
