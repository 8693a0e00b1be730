-- What holds once a connection was served.
use Rattle.std.proofs.Common.{ℕ, List, Option, Result, Ok, Err}
use Rattle.std.specs.Prelude.{IfOk, IfErr}
use Rattle.sector_disk.specs.Disk.{Disk}
use Rattle.session_store.specs.Value.{StoreValue}
use Rattle.session_rules.specs.declared.action.Action.{Action}
use Rattle.session_rules.specs.State.{SessionValue}
use Rattle.line_text.specs.Streams.{stream}
use Rattle.line_replies.specs.declared.fault.ServeFault.{ServeFault}
use Rattle.line_replies.specs.declared.fault.ServeFault.TheVariants.{Read, Write, Accept}
use Rattle.table_server.specs.declared.line_set.LineSet.TheVariants.{Protocol}
use Rattle.table_server.specs.declared.served.Served.{Served}
use Rattle.table_server.specs.Accepting.{Sides, HasServedOne, StopsAccepting}
use Rattle.table_server.specs.ServedStreams.{HasServed, StopsServing}

module _ {D : Type 0} (disk : Disk D) {S : Type 0} (remaining contents : S → Option (List ℕ)) where
  -- the lines of a connection were served, where those of its sides were
  pub one_served : (start store : StoreValue D SessionValue Action) (sides : Sides S) (result : Result Served ServeFault)
      → IfOk result (HasServed disk Protocol start store (stream remaining sides.reader_old sides.reader_new) (stream contents sides.writer_old sides.writer_new))
      → IfOk result (HasServedOne disk remaining contents start store)
  one_served start store sides (Ok result) s = record { sides = sides; served = s }
  one_served start store sides (Err fault) s = tt

  -- and where they were not
  pub one_stopped : (start store : StoreValue D SessionValue Action) (sides : Sides S) (result : Result Served ServeFault)
      → IfErr result (StopsServing disk Protocol start store (stream remaining sides.reader_old sides.reader_new) (stream contents sides.writer_old sides.writer_new))
      → IfErr result (StopsAccepting disk remaining contents start store)
  one_stopped start store sides (Ok result) s = tt
  one_stopped start store sides (Err Read) s = record { sides = sides; stops = s }
  one_stopped start store sides (Err Write) s = record { sides = sides; stops = s }
  one_stopped start store sides (Err Accept) s = absurd s
