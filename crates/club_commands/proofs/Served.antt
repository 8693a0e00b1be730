-- What a work over a disk in a file did.
use Rattle.std.proofs.Common.{Option, None, Some, Result, Ok, Err, IfOk, IfErr, inl, inr, refl}
use Rattle.line_text.specs.Streams.{Stream}
use Rattle.sector_disk.specs.Disk.{Disk}
use Rattle.sector_disk.specs.File.{file_disk}
use Rattle.line_replies.specs.declared.fault.ServeFault.{ServeFault}
use Rattle.table_server.specs.declared.line_set.LineSet.{LineSet}
use Rattle.table_server.specs.declared.served.ServedKeys.{ServedKeys}
use Rattle.table_server.specs.ServedStreams.{HasCounted, StopsServing, EndsCounting}
use Rattle.club_disk.specs.Stored.{StoreOn, ClubDisk, ClubStore, OpensSession}
use Rattle.club_commands.specs.declared.work.Service.{Service}
use Rattle.club_commands.specs.declared.work.Work.{Work}
use Rattle.club_commands.specs.Ended.{Ended}
use Rattle.club_commands.specs.Works.{ServesWith, ServesDisk, WorksFound, HasWorked}

-- what was served of streams, all or up to a fault
pub ends_serving : {D : Type 0} (disk : Disk D) (set : LineSet) (start store : StoreOn D) (input output : Stream) (result : Result ServedKeys ServeFault)
    → IfOk result (HasCounted disk set start store input output) → IfErr result (StopsServing disk set start store input output)
    → EndsCounting disk set start store input output result
ends_serving disk set start store input output (Ok _) served stops = served
ends_serving disk set start store input output (Err _) served stops = stops

-- lines were answered over a session that was opened on a disk, or there was no memory for a cache
pub serves_disk : {C X : Type 0} (cache : Result C X) (service : Service) (d left : ClubDisk) (start : ClubStore) (input output : Stream) (ended : Ended)
    → OpensSession file_disk d start → ServesWith input output ended cache service start left → ServesDisk input output ended service d left
serves_disk (Ok _) service d left start input output ended opened leads =
    inl (start, opened, (leads.0, leads.1, inl leads.2))
serves_disk (Err _) service d left start input output ended opened lacks =
    inl (start, opened, (start, lacks.1, inr (lacks.0, refl)))

-- a work over a disk that was found, or over none, was done
pub has_worked : {E : Type 0} (work : Work) (found : Result ClubDisk E) (left : Option ClubDisk) (input output : Stream) (ended : Ended)
    → WorksFound input output ended work found left → HasWorked input output ended work
has_worked work (Ok d) (Some left) input output ended works = inl (d, left, works)
has_worked work (Ok d) None input output ended works = absurd works
has_worked work (Err _) left input output ended lacks = inr lacks.1
