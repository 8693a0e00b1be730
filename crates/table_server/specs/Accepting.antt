-- What was served over a connection.
use Rattle.std.specs.Prelude.{◌≡◌, ℕ, List, Option}
use Rattle.sector_disk.specs.Disk.{Disk}
use Rattle.session_store.specs.Value.{StoreValue}
use Rattle.session_rules.specs.declared.action.Action.{Action}
use Rattle.session_rules.specs.State.{SessionValue}
use Rattle.line_text.specs.Streams.{stream}
use Rattle.line_replies.specs.declared.fault.ServeFault.{ServeFault}
use Rattle.line_replies.specs.declared.fault.ServeFault.TheVariants.{Read, Write, Accept}
use Rattle.table_server.specs.declared.line_set.LineSet.TheVariants.{Protocol}
use Rattle.table_server.specs.declared.served.Served.{Served}
use Rattle.table_server.specs.ServedStreams.{HasServed, StopsServing}

-- the two sides of a connection, one that is read and one that is written, before and after
pub record Sides (S : Type 0) : Type 0 where
  pub reader_old : S
  pub reader_new : S
  pub writer_old : S
  pub writer_new : S

-- of a net: which bytes a connection still gives, and which it has taken
module _ {D : Type 0} (disk : Disk D) {S : Type 0} (remaining contents : S → Option (List ℕ)) where
  -- the lines that came in at a connection were served, and answered there
  pub record HasServedOne (start store : StoreValue D SessionValue Action) (result : Served) : Type 0 where
    pub sides : Sides S
    pub served : HasServed disk Protocol start store (stream remaining sides.reader_old sides.reader_new) (stream contents sides.writer_old sides.writer_new) result

  -- the lines that came in at a connection were served up to this fault of it
  pub record StopsServingOne (start store : StoreValue D SessionValue Action) (fault : ServeFault) : Type 0 where
    pub sides : Sides S
    pub stops : StopsServing disk Protocol start store (stream remaining sides.reader_old sides.reader_new) (stream contents sides.writer_old sides.writer_new) fault

  -- what holds at a fault; where no connection was had, the store is as it was
  abbrev pub StopsAccepting : StoreValue D SessionValue Action → StoreValue D SessionValue Action → ServeFault → Type 0
  StopsAccepting start store Read = StopsServingOne start store Read
  StopsAccepting start store Write = StopsServingOne start store Write
  StopsAccepting start store Accept = store ≡ start
