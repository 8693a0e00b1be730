use Rattle.bridge_auction.proofs.LegalLength.{legal_length}
use Rattle.bridge_auction.proofs.longest.longest_auction.Goals as goal

pub returns-clause-longest : goal.returns-clause-longest
returns-clause-longest c = legal_length
