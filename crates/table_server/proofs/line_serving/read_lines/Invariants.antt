use Rattle.std.proofs.Common.{◌≡◌, ◌+◌, ◌≤◌, [], length}
use Rattle.session_store.specs.Value.{StoreValue}
use Rattle.session_rules.specs.declared.action.Action.{Action}
use Rattle.session_rules.specs.State.{SessionValue}
use Rattle.line_text.specs.Streams.{stream}
use Rattle.table_server.specs.Faulted.{FailsWithDisk}
use Rattle.table_server.specs.Hearing.{Hearing}
use Rattle.table_server.specs.ServedStreams.{HasRead}
use Rattle.table_server.specs.Serving.{Fits}
use Rattle.table_server.proofs.line_serving.read_lines.Given as goal

abbrev pub invariant-loop-left : goal.invariant-loop-left
invariant-loop-left g l = record {
  set : l.service.set ≡ l.fn.service.set;
  fits : Fits l.service.held;
  few : l.service.held.served.lines + l.left ≤ 65536;
  room : length l.piece ≡ 4096;
  read : (start : StoreValue g.row.D.Denot SessionValue Action) → Hearing g.D.SectorDisk.disk start [] l.fn.store l.fn.service []
      → HasRead g.D.SectorDisk.disk start l.store l.service (stream g.R.Read.remaining l.fn.reader l.reader)
      (stream g.W.Write.contents l.fn.writer l.writer) l.left;
  faults : FailsWithDisk g.D.SectorDisk.disk l.fn.store l.store;
}

abbrev pub decreases-loop-left : goal.decreases-loop-left
decreases-loop-left g l = l.left
