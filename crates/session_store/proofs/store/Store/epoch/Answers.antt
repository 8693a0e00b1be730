use Rattle.std.proofs.Common.{ap}
use Rattle.session_store.proofs.store.Store.epoch.Goals as goal

pub returns-clause-epoch : goal.returns-clause-epoch
returns-clause-epoch g c = ap (λ v. v.epoch) c.self.view_is

pub returns-clause-first : goal.returns-clause-first
returns-clause-first g c = c.self.invariant.some_epoch

pub returns-clause-fits : goal.returns-clause-fits
returns-clause-fits g c = c.self.invariant.epoch
