use Rattle.std.proofs.Common.{sym, ◌∙◌}
use Rattle.bridge_results.proofs.NoteParts.{some_note}
use Rattle.bridge_results.proofs.html.boards.write_note.Goals as goal

pub returns : goal.returns
returns g c =
    let some = some_note c.args.plays.now (sym c.is_empty.ensures ∙ c.if-is_empty.false) in
    rw (c.as_slice.ensures.value, c.note_text.ensures, some) at c.write_text-2.ensures
