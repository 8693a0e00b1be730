use Rattle.table_pages.proofs.SameWaits.{waits_same}
use Rattle.table_pages.proofs.laws.waits_tell_of_their_own_table.Goals as goal

pub returns : goal.returns
returns c = waits_same
