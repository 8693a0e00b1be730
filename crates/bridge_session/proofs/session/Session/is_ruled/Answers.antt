use Rattle.std.proofs.Common.{Bool, List, ap, ◌∙◌, Vec, Global}
use Rattle.std.specs.List.{list_any}
use Rattle.bridge_table.specs.declared.record.Record.{Record}
use Rattle.bridge_table.specs.Kept.{plain_of}
use Rattle.session_rules.specs.State.{SessionValue}
use Rattle.session_rules.specs.DirectorStep.{is_ruled_on}
use Rattle.bridge_session.proofs.Rounds.{tested_tables}
use Rattle.bridge_session.proofs.session.Session.is_ruled.Goals as goal

pub returns : goal.returns
returns c =
    let s = c.self.inside in
    let kept_in : List (Vec Record Global) → Bool = λ vectors.
    list_any (λ (table : Vec Record Global). list_any (λ kept. is_ruled_on c.args.board (plain_of kept)) table.items) vectors in
    c.have_ruling.ensures
    ∙ ap kept_in c.as_slice.ensures.value
    ∙ tested_tables (is_ruled_on c.args.board) s.tables.items
    ∙ ap (λ (t : SessionValue). list_any (list_any (is_ruled_on c.args.board)) t.records) c.self.view_is
