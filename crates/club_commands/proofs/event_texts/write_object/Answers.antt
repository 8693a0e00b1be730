use Rattle.std.proofs.Common.{inl, string_bytes}
use Rattle.club_commands.proofs.event_texts.write_object.Goals as goal

pub returns-in-Ok : goal.returns-in-Ok
returns-in-Ok g c = inl (string_bytes c.in-Ok.text, c.in-Ok.ensures, rw c.as_str.ensures.value at c.write_output.ensures)
