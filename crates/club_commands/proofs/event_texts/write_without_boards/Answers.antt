use Rattle.std.proofs.Common.{refl, inl, inr}
use Rattle.std.proofs.lemmas.Result.{err_from_is_err_and}
use Rattle.club_commands.proofs.event_texts.write_without_boards.Goals as goal

pub returns-in_err-write_boards : goal.returns-in_err-write_boards
returns-in_err-write_boards g c =
    let told = c.in_err-write_boards.ensures in
    let p = err_from_is_err_and c.from_residual.result c.from_residual.ensures.1 in
    rw (p.1, p.2) (told.0, told.1, inr told.2)

pub returns : goal.returns
returns g c =
    let told = c.in_ok-write_boards.ensures in (told.0, told.1, inl (told.2.0, refl))
