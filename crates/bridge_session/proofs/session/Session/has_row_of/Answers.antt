use Rattle.std.proofs.Common.{map}
use Rattle.bridge_table.specs.Kept.{plain_of}
use Rattle.bridge_session.proofs.HasAllLaws.{row_decided}
use Rattle.bridge_session.proofs.session.Session.has_row_of.Goals as goal

pub returns : goal.returns
returns c =
    rw (← c.self.view_is, ← c.other.view_is)
    (row_decided (λ table. table.items) c.self.inside.config c.other.inside.config c.self.inside.round c.other.inside.round
    c.self.inside.deals.items c.other.inside.deals.items c.self.inside.tables.items c.other.inside.tables.items c.have_plays.result c.args.index
    (map plain_of c.records_at-ours.result.now) (map plain_of c.records_at-theirs.result.now)
    (rw c.as_slice.ensures.value at c.records_at-ours.ensures) (rw c.as_slice-2.ensures.value at c.records_at-theirs.ensures) c.have_plays.ensures)
