use Rattle.std.proofs.Common.{◌≡◌, ◌-◌, ◌*◌, ℕ, Bool, List, ap, ◌∙◌, take, drop, Vec, Global}
use Rattle.std.specs.List.{list_any}
use Rattle.bridge_movement.specs.declared.shape.Shape.{Shape}
use Rattle.bridge_config.specs.ConfigValue.{ConfigValue}
use Rattle.bridge_table.specs.declared.record.Record.{Record}
use Rattle.session_rules.specs.Record.{is_open}
use Rattle.session_rules.specs.State.{SessionValue}
use Rattle.session_rules.specs.DirectorStep.{records_of_round}
use Rattle.bridge_table.specs.Kept.{is_kept_open}
use Rattle.bridge_session.proofs.Rounds.{open_of_round}
use Rattle.bridge_session.proofs.session.Session.is_round_open.Goals as goal

pub returns : goal.returns
returns c =
    let s = c.self.inside in
    let shape : Shape = s.config.movement.shape in
    let same : c.shape-shape.result ≡ shape =
    c.shape-shape.ensures.shape ∙ ap (λ (k : ConfigValue). k.movement.shape) c.fields.ensures.fields in
    let count : c.from.result ≡ shape.tables = c.from.ensures ∙ ap (λ (k : Shape). k.tables) same in
    let start : c.rows_before-start.result ≡ (s.round - 1) * shape.tables =
    c.rows_before-start.ensures ∙ ap (λ (k : Shape). (s.round - 1) * k.tables) same in
    let open_in : List (Vec Record Global) → ℕ → ℕ → Bool = λ vectors n k.
    list_any (λ (table : Vec Record Global). list_any is_kept_open table.items) (take n (drop k vectors)) in
    c.have_open.ensures
    ∙ ap (λ vectors. open_in vectors c.from.result c.rows_before-start.result) c.as_slice.ensures.value
    ∙ ap (λ n. open_in s.tables.items n c.rows_before-start.result) count
    ∙ ap (λ r. open_in s.tables.items shape.tables r) start
    ∙ open_of_round s.deals.items s.tables.items shape.tables ((s.round - 1) * shape.tables) c.self.invariant.tied
    ∙ ap (λ (t : SessionValue). list_any (list_any is_open) (records_of_round t)) c.self.view_is
