use Rattle.std.proofs.Common.{◌≡◌, map, take}
use Rattle.session_bytes.specs.Parts.{deal_part}
use Rattle.session_bytes.specs.Reading.{items_of, AreDeals}
use Rattle.session_bytes.proofs.tables_read.read_deals.Given as goal

abbrev pub invariant-loop-index : goal.invariant-loop-index
invariant-loop-index l = record {
  so_far : map deal_part (take l.index l.deals) ≡ map items_of (take l.index l.parts);
  deals : AreDeals (take l.index l.deals);
}
