-- The words of other crates that several of these definitions speak in.
pub use Rattle.bridge_config.specs.ConfigValue.{ConfigValue}
pub use Rattle.bridge_config.specs.Reading.{ReadsConfiguration}
pub use Rattle.bridge_config.specs.Spelling.{Spells}
pub use Rattle.bridge_config.specs.declared.refused.ConfigFault.{ConfigFault}
pub use Rattle.bridge_session.specs.SessionKeeping.{session_keeping}
pub use Rattle.club_commands.specs.declared.fault.RunFault.{RunFault}
pub use Rattle.club_commands.specs.declared.fault.RunFault.TheVariants.{Stream as StreamFault, System, Config, Store}
pub use Rattle.club_commands.specs.declared.fault.SystemFault.TheVariants.{Listener}
pub use Rattle.club_commands.specs.declared.work.Told.TheVariants.{Ranking, Games}
pub use Rattle.club_disk.specs.Stored.{RefusesReading, StoreOn, RefusesDisk, ClubStore, ClubDisk, Over}
pub use Rattle.line_text.specs.Streams.{Stream, Takes, TakesPrefix, IsUntouched, Gives, Written}
pub use Rattle.sector_disk.specs.Disk.{Disk, Image, Rose}
pub use Rattle.sector_disk.specs.File.{file_disk}
pub use Rattle.session_rules.specs.State.{SessionValue}
pub use Rattle.session_store.specs.Stands.{header_in}
pub use Rattle.session_store.specs.declared.fault.StoreFault.{StoreFault}
pub use Rattle.session_store.specs.declared.fault.StoreFault.TheVariants.{TooSmall, Disk as DiskFault, NotFormatted, Damaged, EpochsSpent, NoMemory}
pub use Rattle.std.specs.Borrow.{Bor}
pub use Rattle.std.specs.Fmt.{decimal}
pub use Rattle.line_replies.specs.declared.fault.ServeFault.{ServeFault}
pub use Rattle.line_replies.specs.declared.fault.ServeFault.TheVariants.{Write, Read, Accept}
pub use Rattle.table_server.specs.declared.served.Served.{Served}
