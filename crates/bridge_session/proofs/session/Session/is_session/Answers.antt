use Rattle.std.proofs.Common.{subst}
use Rattle.session_rules.specs.StateRange.{IsSession}
use Rattle.bridge_session.proofs.Acted.{kept_session}
use Rattle.bridge_table.proofs.Tables.{lists_in}
use Rattle.bridge_session.proofs.session.Session.is_session.Goals as goal

pub returns : goal.returns
returns c =
    let s = c.self.inside in
    subst IsSession c.self.view_is (kept_session s.config s.round s.deals.items (lists_in s.tables.items) c.self.invariant)
