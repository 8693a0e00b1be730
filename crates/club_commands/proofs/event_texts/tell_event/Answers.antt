use Rattle.club_commands.proofs.event_texts.tell_event.Goals as goal

pub write_asked-requires : goal.write_asked-requires
write_asked-requires g c = rw c.in-Ok.ensures c.requires.field
