use Rattle.bridge_par.proofs.Calling.{IsBest-none}
use Rattle.bridge_par.proofs.best_bids.best_bids.Goals as goal

pub loop-bid-init : goal.loop-bid-init
loop-bid-init c = IsBest-none c.args.table.now c.args.vulnerability
