use Rattle.std.proofs.Common.{Some, ap, ◌∙◌}
use Rattle.std.specs.Option.{option_map}
use Rattle.session_rules.specs.Outcome.{outcome_of}
use Rattle.bridge_table.proofs.Outcomes.{outcome_seen}
use Rattle.bridge_session.proofs.session.Session.entry.Goals as goal

pub returns-clause-outcome : goal.returns-clause-outcome
returns-clause-outcome c =
    let kept = c.in_ok-record.record.now in
    ap Some (c.outcome.ensures.outcome ∙ outcome_seen c.args.self.now.deals kept c.in_ok-record.ensures.tied)
    ∙ ap (option_map outcome_of) c.in_ok-record.ensures.record
