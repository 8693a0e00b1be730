use Rattle.std.proofs.Common.{◌≡◌, ◌+◌, ◌≤◌, ℕ, List, ◌++◌, take}
use Rattle.session_store.specs.Value.{StoreValue}
use Rattle.session_rules.specs.declared.action.Action.{Action}
use Rattle.session_rules.specs.State.{SessionValue}
use Rattle.line_text.specs.Streams.{stream, Takes}
use Rattle.table_server.specs.Faulted.{FailsWithDisk}
use Rattle.table_server.specs.Hearing.{Hearing}
use Rattle.table_server.specs.Serving.{Fits}
use Rattle.table_server.proofs.line_service.LineService.take.Given as goal

abbrev pub invariant-loop-byte : goal.invariant-loop-byte
invariant-loop-byte g l = record {
  set : l.self.set ≡ l.fn.self.set;
  fits : Fits l.self.held;
  lines : l.self.held.served.lines ≤ l.fn.self.held.served.lines + l.byte-index;
  hears : (start : StoreValue g.row.D.Denot SessionValue Action) (bytes : List ℕ) (written : List ℕ) → Hearing g.D.SectorDisk.disk start bytes l.fn.store l.fn.self written
      → (text : List ℕ) × Takes (stream g.W.Write.contents l.fn.writer l.writer) text
      × Hearing g.D.SectorDisk.disk start (bytes ++ take l.byte-index l.piece) l.store l.self (written ++ text);
  faults : FailsWithDisk g.D.SectorDisk.disk l.fn.store l.store;
}
