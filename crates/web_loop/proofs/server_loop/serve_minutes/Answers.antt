use Rattle.std.proofs.Common.{◌<◌, refl}
use Rattle.web_loop.proofs.Limits.{KeepsLimits-then}
use Rattle.web_loop.proofs.Leading.{LeadsTo-then}
use Rattle.web_loop.proofs.Serves.{on_ok-of_err}
use Rattle.web_loop.proofs.server_loop.serve_minutes.Goals as goal

pub returns : goal.returns
returns g c =
    let kept = KeepsLimits-then _ _ _ c.take_rounds_for.ensures.limits c.send_pending.ensures.limits in
    record {
      leads = LeadsTo-then g.S.Service.answers _ _ _ c.take_rounds_for.ensures.leads c.send_pending.ensures.leads;
      serves = record {
        rounds = c.take_rounds_for.ensures.rounds.0;
        last = c.send_pending.ensures.rounds.0;
        mid = c.take_rounds_for.new.clients;
        between = c.take_rounds_for.new.service;
        served = c.take_rounds_for.ensures.rounds.1;
        sent = c.send_pending.ensures.rounds.1;
        ends = c.send_pending.ensures.rounds.2;
      };
      config = kept.config;
      limited = kept.each c.requires.limited;
    }

pub returns-in_err-take_rounds_for-clause-serves : goal.returns-in_err-take_rounds_for-clause-serves
returns-in_err-take_rounds_for-clause-serves g c = record {
  rounds = c.take_rounds_for.ensures.rounds.0;
  last = 0;
  mid = c.take_rounds_for.new.clients;
  between = c.take_rounds_for.new.service;
  served = c.take_rounds_for.ensures.rounds.1;
  sent = (refl, refl);
  ends = on_ok-of_err (0 < 0) c.from_residual-in_err-take_rounds_for.result c.from_residual-in_err-take_rounds_for.ensures.0;
}
