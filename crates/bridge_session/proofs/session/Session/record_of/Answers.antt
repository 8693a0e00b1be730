use Rattle.std.proofs.Common.{◌≡◌, ◌<◌, ◌-◌, length, Some, sym, ap, ◌∙◌, subst, arith}
use Rattle.std.specs.Prelude.{slice_get, IfSome}
use Rattle.std.specs.Option.{option_map, option_copied}
use Rattle.std.proofs.lemmas.Option.{slice_get-map}
use Rattle.bridge_movement.specs.Shape.{index_of_row}
use Rattle.session_rules.specs.State.{SessionValue, is_row_within, record_of}
use Rattle.bridge_table.specs.Kept.{plain_of, IsTiedIn}
use Rattle.bridge_table.proofs.Tables.{tied_row, lists_in, list_there}
use Rattle.session_rules.proofs.Lists.{all_at}
use Rattle.bridge_session.proofs.Acted.{record_found}
use Rattle.bridge_session.proofs.Ruled.{some_if}
use Rattle.bridge_session.proofs.session.Session.record_of.Goals as goal
use Rattle.bridge_session.proofs.session.Session.record_of.Goals.{After-record_at}

-- the table of the play
row_there : (c : After-record_at) → slice_get (lists_in c.self.inside.tables.items) c.in_ok-index.index ≡ Some c.as_slice.result.now
row_there c =
    let s = c.self.inside in
    let within : c.in_ok-index.index < length (lists_in s.tables.items) = omega (arith, c.in_ok-index.ensures.within, c.self.invariant.rows) in
    list_there s.tables.items c.in_ok-index.index c.index-table.result.now within c.index-table.ensures ∙ ap Some (sym c.as_slice.ensures.value)

pub returns-clause-record : goal.returns-clause-record
returns-clause-record c =
    let s = c.self.inside in
    let play = c.args.play in
    let table = c.as_slice.result.now in
    let of_row = some_if (is_row_within s.config.movement.shape play.round play.table) (index_of_row s.config.movement.shape play.round play.table) c.in_ok-index.index (sym c.in_ok-index.ensures.row) in
    let index = c.from.ensures ∙ ap (λ n. n - 1) c.number.ensures.number in
    ap (option_map plain_of) c.record_at.ensures
    ∙ sym (slice_get-map plain_of table c.from.result)
    ∙ sym (record_found s.config s.round s.deals.items (lists_in s.tables.items) play c.in_ok-index.index c.from.result table of_row.0 of_row.1 index (row_there c))
    ∙ ap (λ (t : SessionValue). record_of t play) c.self.view_is

pub returns-clause-tied : goal.returns-clause-tied
returns-clause-tied c =
    let s = c.self.inside in
    let table = c.as_slice.result.now in
    let tied = tied_row s.deals.items (lists_in s.tables.items) c.in_ok-index.index table c.self.invariant.tied (row_there c) in
    let there : IfSome (option_copied c.record_at.result) (IsTiedIn s.deals.items) =
    subst (λ o. IfSome o (IsTiedIn s.deals.items)) (sym c.record_at.ensures) (all_at (IsTiedIn s.deals.items) table c.from.result tied) in
    subst (λ (t : SessionValue). IfSome (option_copied c.record_at.result) (IsTiedIn t.deals)) c.self.view_is there
