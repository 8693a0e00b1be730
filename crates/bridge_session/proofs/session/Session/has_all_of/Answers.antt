use Rattle.std.proofs.Common.{◌≤◌, arith, map}
use Rattle.std.specs.Bool.{Decides}
use Rattle.std.specs.List.{AllZip}
use Rattle.bridge_table.specs.Kept.{plain_of}
use Rattle.bridge_session.specs.HasAll.{HasDeal, HasPlay}
use Rattle.bridge_session.proofs.HasAllLaws.{all_decided, failed}
use Rattle.bridge_session.proofs.session.Session.has_all_of.Goals as goal

pub returns-then-not-have_deals : goal.returns-then-not-have_deals
returns-then-not-have_deals c =
    let dealt : Decides c.have_deals.result (AllZip HasDeal c.self.inside.deals.items c.other.inside.deals.items) =
    rw (c.as_slice.ensures.value, c.as_slice-2.ensures.value) at c.have_deals.ensures in
    rw (← c.self.view_is, ← c.other.view_is)
    (failed c.have_deals.result dealt c.if-not-have_deals.true (λ has. has.deals))

pub returns : goal.returns
returns c =
    let later : c.other.inside.round ≤ c.self.inside.round = omega (arith, c.if-self-other.false) in
    let dealt : AllZip HasDeal c.self.inside.deals.items c.other.inside.deals.items =
    rw (c.as_slice.ensures.value, c.as_slice-2.ensures.value) at (c.have_deals.ensures.0 c.if-not-have_deals.false) in
    let played : Decides c.have_tables.result (AllZip (AllZip HasPlay) (map (λ table. map plain_of table.items) c.self.inside.tables.items) (map (λ table. map plain_of table.items) c.other.inside.tables.items)) =
    rw (c.as_slice-3.ensures.value, c.as_slice-4.ensures.value) at c.have_tables.ensures in
    rw (← c.self.view_is, ← c.other.view_is)
    (all_decided (λ table. table.items) c.self.inside.config c.other.inside.config c.self.inside.round c.other.inside.round
    c.self.inside.deals.items c.other.inside.deals.items c.self.inside.tables.items c.other.inside.tables.items c.have_tables.result later dealt played)
