use Rattle.std.proofs.Common.{inl}
use Rattle.club_commands.proofs.events.run_event.Goals as goal

pub returns : goal.returns
returns g c =
    inl (
      c.in_ok-sections.sections.items,
      rw c.as_slice.ensures.value at c.in_ok-sections.ensures.read,
      rw c.as_slice-2.ensures.value at c.over_field.ensures,
    )
