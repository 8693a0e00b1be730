use Rattle.std.proofs.Common.{suc, arith}
use Rattle.web_loop.proofs.Limits.{KeepsLimits-then}
use Rattle.web_loop.proofs.Leading.{LeadsTo-then}
use Rattle.web_loop.proofs.server_loop.send_pending.Goals as goal

pub returns-then-is_late : goal.returns-then-is_late
returns-then-is_late g c = record {
  leads = LeadsTo-then g.S.Service.answers _ _ _ c.loop.invariant.0 c.take_turns-moved.ensures.leads;
  rounds = (
    suc c.loop.invariant.2.0,
    (
      c.loop.clients,
      c.loop.service,
      c.loop.invariant.2.1,
      record {
        now = c.in_ok-now.now;
        free = c.release.new.self;
        releases = record { each = c.release.ensures.released; rest = c.release.ensures.rest };
        turned = c.take_turns-moved.new.self;
        frees = record { each = c.release-in-loop.ensures.released; rest = c.release-in-loop.ensures.rest };
        took = c.take_turns-moved.ensures.turns;
      },
    ),
    omega arith,
  );
  limits = KeepsLimits-then _ _ _ c.loop.invariant.1 (KeepsLimits-then _ _ _ c.release.ensures.limits (KeepsLimits-then _ _ _ c.take_turns-moved.ensures.limits c.release-in-loop.ensures.limits));
}

pub loop-preserved : goal.loop-preserved
loop-preserved g c = (
  LeadsTo-then g.S.Service.answers _ _ _ c.loop.invariant.0 c.take_turns-moved.ensures.leads,
  KeepsLimits-then _ _ _ c.loop.invariant.1 (KeepsLimits-then _ _ _ c.release.ensures.limits (KeepsLimits-then _ _ _ c.take_turns-moved.ensures.limits c.release-in-loop.ensures.limits)),
  (
    suc c.loop.invariant.2.0,
    (
      c.loop.clients,
      c.loop.service,
      c.loop.invariant.2.1,
      record {
        now = c.in_ok-now.now;
        free = c.release.new.self;
        releases = record { each = c.release.ensures.released; rest = c.release.ensures.rest };
        turned = c.take_turns-moved.new.self;
        frees = record { each = c.release-in-loop.ensures.released; rest = c.release-in-loop.ensures.rest };
        took = c.take_turns-moved.ensures.turns;
      },
    ),
    omega (arith, c.loop.invariant.2.2),
  ),
)
