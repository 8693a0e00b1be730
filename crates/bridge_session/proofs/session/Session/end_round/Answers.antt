use Rattle.std.proofs.Common.{◌≡◌, ◌+◌, false, sym, ap, ◌∙◌, subst}
use Rattle.std.specs.List.{list_any}
use Rattle.session_rules.specs.Record.{is_open}
use Rattle.session_rules.specs.State.{SessionValue, is_closed}
use Rattle.session_rules.specs.DirectorStep.{records_of_round}
use Rattle.session_rules.specs.StateRange.{IsSession}
use Rattle.bridge_session.specs.KeptSession.{state_of, IsKeptSession}
use Rattle.bridge_session.proofs.Acted.{kept_session}
use Rattle.bridge_table.proofs.Tables.{lists_in}
use Rattle.bridge_session.proofs.Rounds.{next_accepted, kept_next}
use Rattle.session_rules.proofs.ValidRound.{next_valid}
use Rattle.bridge_session.proofs.session.Session.end_round.Goals as goal

pub invariant_of-self : goal.invariant_of-self
invariant_of-self c =
    let s = c.self.inside in
    let lists = lists_in s.tables.items in
    let before = state_of s.config s.round s.deals.items lists in
    let begun : is_closed s.config s.round ≡ false = sym c.is_closed.ensures ∙ c.if-is_closed.false in
    let none : list_any (list_any is_open) (records_of_round before) ≡ false =
    ap (λ (t : SessionValue). list_any (list_any is_open) (records_of_round t)) c.self.view_is ∙ sym c.is_round_open.ensures ∙ c.if-is_round_open.false in
    let round = c.number-2.ensures.number ∙ sym c.number.ensures.number ∙ c.if-number-self.false in
    let was = kept_session s.config s.round s.deals.items lists c.self.invariant in
    let is : IsSession (state_of s.config (s.round + 1) s.deals.items lists) = record {
      valid = next_valid before s.round was.valid (next_accepted before begun none);
      ranges = record { deals = was.ranges.deals; records = was.ranges.records };
    } in
    subst (λ n. IsKeptSession s.config (n + 1) s.deals.items lists) (sym round) (kept_next s.config s.round s.deals.items lists c.self.invariant is)
