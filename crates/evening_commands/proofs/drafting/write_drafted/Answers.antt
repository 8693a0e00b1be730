use Rattle.std.proofs.Common.{refl}
use Rattle.evening_commands.proofs.drafting.write_drafted.Goals as goal

pub returns-in-Ok : goal.returns-in-Ok
returns-in-Ok g c = let told = c.in-Ok.ensures in (told.form, told.of, told.spells, (told.written, tt))

pub returns-in-Err : goal.returns-in-Err
returns-in-Err g c = let told = c.in-Err.ensures in (told.form, told.of, told.spells, (told.written, refl))
